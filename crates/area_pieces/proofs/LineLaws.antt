-- The pieces of a plain local in line order: blocks without both bits and without a span give none, so that only the others are visited.
use Prim.Native.Nat.{ℕ, zero, suc, ◌+◌, ◌-◌, ◌*◌, ◌/◌, ◌%◌, ◌^◌, ◌≤◌, ◌<◌, min}
use native.Mathlib.Omega.{arith}
use mathlib.Core.Path.{◌≡◌, refl, sym, ap, ◌∙◌}
use mathlib.Core.Logic.{◌≢◌}
use mathlib.Core.Bool.{Bool, true, false, cond, ◌&&◌, ◌||◌, true≢false, false≢true, or-true}
use mathlib.Core.List.{List, [], ◌∷◌}
use lib.ListN.{length, get_or}
use Rattle.words.specs.Inner.{part}
use Rattle.words.specs.Widths.{block_count, block_start, block_end}
use Rattle.words.proofs.RegionLaws.{row_before}
use Rattle.words.proofs.Points.{cut, same}
use borrow.Author.Tests.{eq-eqb}
use lib.Dec.{eqb}
use Rattle.bits.specs.Bits.{bit_of}
use Rattle.bits.specs.Inner.{Row, FirstSet}
use Rattle.ranges.specs.declared.Range.{Range}
use Rattle.ranges.specs.Points.{range}
use Rattle.ranges.specs.Merged.{joined}
use Rattle.ranges.specs.Inner.{pack, unpack, unpacked}
use Rattle.ranges.proofs.FormLaws.{unpack_pack}
use Rattle.graph.specs.Paths.{Edge}
use Rattle.graph.specs.Line.{blocks_of, Sound}
use Rattle.graph.proofs.Line.{start_is, end_is}
use Rattle.areas.specs.Blocks.{Graph, top, bottom, whole}
use Rattle.areas.specs.Pieces.{clips, span, block_piece, join_each, line_pieces}
use Rattle.spots.specs.Spots.{line_of}
use Rattle.area_pieces.proofs.SweepLaws.{stays, Sweep, sweep_begin, sweep_in, sweep_mark, sweep_next, sweep_skip, sweep_pieces, sweep_more, sweep_done, swept_after}
use Rattle.area_pieces.specs.declared.Local.{Local}
use Rattle.area_pieces.specs.Inner.{own_bit, written_bit, read_bit, mark_bit, Flowing, Both, span_at, hull, piece_at, Spans, Run, RunPiece, Taken, Covered, Visitable, Pieced, Visited, Lined, JoinedIn}

-- ---- a block's piece by its span

abbrev from_hull : Graph → ℕ → Bool → Bool → List Range → List Range
from_hull G k from to [] = []
from_hull G k from to (h ∷ hs) = range (cond from (top G k) h.start) (cond to (bottom G k) h.end) ∷ []

span_hull : (G : Graph) (k : ℕ) (from to : Bool) (cs : List Range) → span G k from to cs ≡ from_hull G k from to (hull cs)
span_hull G k from to [] = refl
span_hull G k from to (c ∷ cs) = refl

module _ (G : Graph) (s : Local) (n : ℕ) (ts : List Range) (w : List ℕ) (p : Spans G s n ts w) (k : ℕ) (h : k < n) (own : own_bit s w k ≡ (written_bit s w k && read_bit s w k)) where
  by_span : block_piece G ts (written_bit s w) (read_bit s w) k ≡ cond (own_bit s w k) (whole G k ∷ []) (from_hull G k (written_bit s w k) (read_bit s w k) (span_at s w k))
  by_span = rw (span_hull G k (written_bit s w k) (read_bit s w k) (clips G ts k), ← p.is k h, ← own)

  piece_here : (mark_bit s w k || own_bit s w k) ≡ true → block_piece G ts (written_bit s w) (read_bit s w) k ≡ piece_at G s w k ∷ []
  piece_here e = by_span ∙ go (own_bit s w k) (mark_bit s w k) e
    where
      go : (o m : Bool) → (m || o) ≡ true
          → cond o (whole G k ∷ []) (from_hull G k (written_bit s w k) (read_bit s w k) (cond m (unpack (get_or w (s.span + k) 0) ∷ []) []))
          ≡ cond o (whole G k) (range (cond (written_bit s w k) (top G k) (unpack (get_or w (s.span + k) 0)).start) (cond (read_bit s w k) (bottom G k) (unpack (get_or w (s.span + k) 0)).end)) ∷ []
      go true m e = refl
      go false true e = refl
      go false false e = absurd (false≢true e)

  piece_none : (mark_bit s w k || own_bit s w k) ≡ false → block_piece G ts (written_bit s w) (read_bit s w) k ≡ []
  piece_none e = by_span ∙ go (own_bit s w k) (mark_bit s w k) e
    where
      go : (o m : Bool) → (m || o) ≡ false → cond o (whole G k ∷ []) (from_hull G k (written_bit s w k) (read_bit s w k) (cond m (unpack (get_or w (s.span + k) 0) ∷ []) [])) ≡ []
      go true true e = absurd (true≢false e)
      go true false e = absurd (true≢false e)
      go false true e = absurd (true≢false e)
      go false false e = refl

-- rows that stand before the marks are read alike from two lists that agree there
module _ (s : Local) (n : ℕ) (w₀ w : List ℕ) (f : Flowing s n) (before : (i : ℕ) → i < s.mark → get_or w i 0 ≡ get_or w₀ i 0) where
  pub written_kept : (k : ℕ) → k < n → written_bit s w k ≡ written_bit s w₀ k
  written_kept k h = ap (λ (y : ℕ). bit_of y (s.local % 64)) (before (s.written + k * s.words + s.local / 64) (omega (arith, row_before k n s.words h)))

  pub read_kept : (k : ℕ) → k < n → read_bit s w k ≡ read_bit s w₀ k
  read_kept k h = ap (λ (y : ℕ). bit_of y (s.local % 64)) (before (s.read + k * s.words + s.local / 64) (omega (arith, row_before k n s.words h)))

  pub own_kept : s.row + s.wide ≤ s.mark → (c : ℕ) → c < s.wide * 64 → own_bit s w c ≡ own_bit s w₀ c
  own_kept r c h = ap (λ (y : ℕ). bit_of y (c % 64)) (before (s.row + c / 64) (omega arith))

  -- and so is a piece, where its span is the same
  piece_kept : (G : Graph) (k : ℕ) → k < n → s.row + s.wide ≤ s.mark → k < s.wide * 64 → get_or w (s.span + k) 0 ≡ get_or w₀ (s.span + k) 0 → piece_at G s w k ≡ piece_at G s w₀ k
  piece_kept G k h r l word = rw (own_kept r k l, written_kept k h, read_kept k h, word)

-- what the code works out of a block with both bits, and of one with a span
module _ (blocks : List ℕ) (s : Local) (w : List ℕ) (k y : ℕ) (h : k < block_count blocks) (small : block_end blocks k < 2 ^ 32) where
  pub piece_whole : own_bit s w k ≡ true → y ≡ pack (range (block_start blocks k) (block_end blocks k)) → unpack y ≡ piece_at (line_of blocks []) s w k
  piece_whole o e =
      ap unpack e ∙ unpack_pack (block_start blocks k) (block_end blocks k) small
      ∙ rw (o, start_is blocks k h, end_is blocks k h)

  pub piece_part : own_bit s w k ≡ false → (from to : Bool) → from ≡ written_bit s w k → to ≡ read_bit s w k
      → unpack y ≡ range (cond from (block_start blocks k) (unpack (get_or w (s.span + k) 0)).start) (cond to (block_end blocks k) (unpack (get_or w (s.span + k) 0)).end)
      → unpack y ≡ piece_at (line_of blocks []) s w k
  piece_part o from to ef et e = e ∙ rw (o, ef, et, start_is blocks k h, end_is blocks k h)

-- ---- the pieces of some blocks more

module _ (G : Graph) (ts : List Range) (f g : ℕ → Bool) where
  line_one : (k : ℕ) (r : Range) → block_piece G ts f g k ≡ r ∷ [] → line_pieces G ts f g (suc k) ≡ joined (line_pieces G ts f g k) r
  unfolding line_pieces join_each
  line_one k r e = ap (join_each (line_pieces G ts f g k)) e

  line_same : (k : ℕ) → block_piece G ts f g k ≡ [] → line_pieces G ts f g (suc k) ≡ line_pieces G ts f g k
  unfolding line_pieces join_each
  line_same k e = ap (join_each (line_pieces G ts f g k)) e

  line_start : line_pieces G ts f g 0 ≡ []
  unfolding line_pieces
  line_start = refl

-- ---- the loop over the marked blocks

pub nearer : {k k' a b : ℕ} → a ≡ b → k < a → k < k' → a - k' < a - k
nearer e h l = omega arith

pub record Lining (blocks : List ℕ) (s : Local) (n from : ℕ) (w₀ w : List ℕ) (k r : ℕ) : Type 0 where
  pub asked : Visitable s n from w₀
  pub covered : Covered s w₀
  pub sound : Sound (blocks_of blocks)
  pub all : n ≡ length (blocks_of blocks)
  pub sweep : Sweep s n from w₀ w k r
  pub pieces : (es : List Edge) (ts : List Range) (f g : ℕ → Bool) → Pieced (line_of blocks es) ts f g s n w₀
      → unpacked (part from r w) ≡ line_pieces (line_of blocks es) ts f g (min k n)

joined_behind : (s : Range) (l : List Range) (r : Range) → 0 < length l → joined (s ∷ l) r ≡ s ∷ joined l r
unfolding joined
joined_behind s [] r h = absurd (omega arith)
joined_behind s (t ∷ l) r h = refl

joined_some : (l : List Range) (r : Range) → 0 < length (joined l r)
unfolding joined
joined_some [] r = omega arith
joined_some (s ∷ []) r = go (eqb r.start (s.end + 1))
  where
    go : (t : Bool) → 0 < length (cond t (range s.start r.end ∷ []) (s ∷ r ∷ []))
    go true = omega arith
    go false = omega arith
joined_some (s ∷ t ∷ l) r = omega arith

-- a range that starts where the last one ends goes on with it
joined_twice : (l : List Range) (a b c : ℕ) → joined (joined l (range a b)) (range (b + 1) c) ≡ joined l (range a c)
unfolding joined
joined_twice [] a b c = ap (λ (t : Bool). cond t (range a c ∷ []) (range a b ∷ range (b + 1) c ∷ [])) (eq-eqb (b + 1) (b + 1) refl)
joined_twice (s ∷ []) a b c = go (eqb a (s.end + 1))
  where
    go : (t : Bool) → joined (cond t (range s.start b ∷ []) (s ∷ range a b ∷ [])) (range (b + 1) c) ≡ cond t (range s.start c ∷ []) (s ∷ range a c ∷ [])
    go true = ap (λ (t : Bool). cond t (range s.start c ∷ []) (range s.start b ∷ range (b + 1) c ∷ [])) (eq-eqb (b + 1) (b + 1) refl)
    go false = ap (λ (t : Bool). s ∷ cond t (range a c ∷ []) (range a b ∷ range (b + 1) c ∷ [])) (eq-eqb (b + 1) (b + 1) refl)
joined_twice (s ∷ t ∷ l) a b c = joined_behind s (joined (t ∷ l) (range a b)) (range (b + 1) c) (joined_some (t ∷ l) (range a b)) ∙ ap (λ (q : List Range). s ∷ q) (joined_twice (t ∷ l) a b c)

-- some blocks more have no piece, and one has its own
module _ (blocks : List ℕ) (s : Local) (n : ℕ) (w₀ : List ℕ) (es : List Edge) (ts : List Range) (f g : ℕ → Bool) (p : Pieced (line_of blocks es) ts f g s n w₀) where
  abbrev lines : ℕ → List Range
  lines k = line_pieces (line_of blocks es) ts f g k

  passed : (j k : ℕ) → j ≤ k → ((i : ℕ) → j ≤ i → i < k → mark_bit s w₀ i ≡ false) → j ≤ n → lines (min k n) ≡ lines j
  passed j k h none l =
      stays lines n j k h l
      (λ i q m v. line_same (line_of blocks es) ts f g i (p.is i v ∙ ap (λ (t : Bool). cond t (piece_at (line_of blocks es) s w₀ i ∷ []) []) (none i q m)))

  own_piece : (k : ℕ) → own_bit s w₀ k ≡ true → piece_at (line_of blocks es) s w₀ k ≡ range (top (line_of blocks es) k) (bottom (line_of blocks es) k)
  own_piece k o =
      ap (λ (t : Bool). cond t (whole (line_of blocks es) k)
      (range (cond (written_bit s w₀ k) (top (line_of blocks es) k) (unpack (get_or w₀ (s.span + k) 0)).start) (cond (read_bit s w₀ k) (bottom (line_of blocks es) k) (unpack (get_or w₀ (s.span + k) 0)).end))) o

  taken : (k : ℕ) → k < n → mark_bit s w₀ k ≡ true → lines (suc k) ≡ joined (lines k) (piece_at (line_of blocks es) s w₀ k)
  taken k h e =
      line_one (line_of blocks es) ts f g k (piece_at (line_of blocks es) s w₀ k)
      (p.is k h ∙ ap (λ (t : Bool). cond t (piece_at (line_of blocks es) s w₀ k ∷ []) []) e)

  -- blocks that are marked and have the local's own bit, one behind another, come to one piece: there is no gap between blocks
  taken_run : (m k e : ℕ) → e ≡ suc (k + m) → e ≤ n → n ≡ length (blocks_of blocks) → Sound (blocks_of blocks)
      → ((c : ℕ) → k ≤ c → c < e → (mark_bit s w₀ c ≡ true) × (own_bit s w₀ c ≡ true)) → lines e ≡ joined (lines k) (range (top (line_of blocks es) k) (bottom (line_of blocks es) (k + m)))
  taken_run zero k e q h a g all =
      let z : e ≡ suc k = omega arith in
      let y : k ≡ k + 0 = omega arith in
      ap lines z ∙ taken k (omega arith) (all k (omega arith) (omega arith)).0 ∙ ap (joined (lines k)) (own_piece k (all k (omega arith) (omega arith)).1
      ∙ ap (λ (j : ℕ). range (top (line_of blocks es) k) (bottom (line_of blocks es) j)) y)
  taken_run (suc m) k e q h a g all =
      let z : e ≡ suc (suc (k + m)) = omega arith in
      let y : suc (k + m) ≡ k + suc m = omega arith in
      ap lines z ∙ taken (suc (k + m)) (omega arith) (all (suc (k + m)) (omega arith) (omega arith)).0
      ∙ ap (joined (lines (suc (k + m)))) (own_piece (suc (k + m)) (all (suc (k + m)) (omega arith) (omega arith)).1
      ∙ ap (λ (t : ℕ). range t (bottom (line_of blocks es) (suc (k + m)))) (g.gapless (k + m) (omega arith)))
      ∙ ap (λ (l : List Range). joined l (range (bottom (line_of blocks es) (k + m) + 1) (bottom (line_of blocks es) (suc (k + m))))) (taken_run m k (suc (k + m)) refl (omega arith) a g (λ c i j. all c i (omega arith)))
      ∙ joined_twice (lines k) (top (line_of blocks es) k) (bottom (line_of blocks es) (k + m)) (bottom (line_of blocks es) (suc (k + m)))
      ∙ ap (λ (j : ℕ). joined (lines k) (range (top (line_of blocks es) k) (bottom (line_of blocks es) j))) y

pub line_begin : (blocks : List ℕ) (s : Local) (n from : ℕ) {w : List ℕ} → Visitable s n from w → Covered s w → Sound (blocks_of blocks) → n ≡ length (blocks_of blocks)
    → (k : ℕ) → FirstSet w s.mark s.wide 0 k → Lining blocks s n from w w k 0
line_begin blocks s n from {w} a v g all k first = record {
  asked = a;
  covered = v;
  sound = g;
  all = all;
  sweep = sweep_begin a.swept first;
  pieces = λ es ts f g p. sym (passed blocks s n w es ts f g p 0 k (omega arith) (λ i q m. first.least i (omega arith) m) (omega arith)
      ∙ line_start (line_of blocks es) ts f g);
}

module _ {blocks : List ℕ} {s : Local} {n from : ℕ} {w₀ w : List ℕ} {k r : ℕ} (d : Lining blocks s n from w₀ w k r) where
  piece_same : (G : Graph) → k < n → piece_at G s w k ≡ piece_at G s w₀ k
  piece_same G h =
      let a = d.asked in
      let p = a.swept.wide in
      let f = a.span_fits in
      let m = a.mark_fits in
      piece_kept s n w₀ w a.flowing d.sweep.before G k h a.row_fits (omega arith) (d.sweep.between (s.span + k) (omega arith) (omega arith))

  pub run_asks : k < s.wide * 64 → (k < s.wide * 64) × (s.row + s.wide ≤ length w) × (s.wide * 64 < 2 ^ 64)
  run_asks h =
      let l = d.sweep.len in
      let f = d.asked.swept.fits in
      let g = d.asked.swept.mark_fits in
      let q = d.asked.row_fits in
      (h, omega arith, d.asked.swept.small)

  pub join_asks : k < s.wide * 64 → from + r < length w
  join_asks h =
      let z = sweep_in d.sweep h in
      let l = d.sweep.len in
      let q = d.sweep.r_le in
      let f = d.asked.swept.fits in
      omega arith

  pub first_asks : k < s.wide * 64 → {l₁ l₂ : ℕ} → l₁ ≡ length w → l₂ ≡ l₁ → (s.mark + s.wide ≤ l₂) × (k / 64 ≤ s.wide) × (s.wide * 64 < 2 ^ 64)
  first_asks h q v =
      let l = d.sweep.len in
      let f = d.asked.swept.fits in
      let g = d.asked.swept.mark_fits in
      (omega arith, omega arith, d.asked.swept.small)

  module _ {e : ℕ} (h : k < s.wide * 64) (run : Run s k e w) where
    own_marked : e ≢ k + 1 → (c : ℕ) → k ≤ c → c < e → (mark_bit s w₀ c ≡ true) × (own_bit s w₀ c ≡ true)
    own_marked q c i j =
        let z = run.word in
        let o : own_bit s w₀ c ≡ true = sym (own_kept s n w₀ w d.asked.flowing d.sweep.before d.asked.row_fits c (omega arith)) ∙ run.own q c i j in
        (d.covered.marked c (omega arith) o, o)

    -- the blocks of a run are among the n
    pub run_in : e ≤ n
    run_in =
        let l = run.some in
        same e (k + 1) (λ q. let z = sweep_in d.sweep h in omega arith)
        (λ q. let v = run.word in cut e n (λ i. i)
        (λ i. absurd (true≢false (sym (own_marked q (e - 1) (omega arith) (omega arith)).0 ∙ d.asked.swept.past (e - 1) (omega arith) (omega arith)))))

    -- what the calls of one turn ask
    pub stretch_asks : ((k < e) × (e ≤ n) × (k < s.wide * 64) × (s.row + s.wide ≤ length w) × (s.span + k < length w)) × (Flowing s n × (s.mark ≤ length w))
    stretch_asks =
        let z = sweep_in d.sweep h in
        let l = d.sweep.len in
        let a = d.asked in
        let f = a.swept.fits in
        let g = a.swept.mark_fits in
        let b = a.span_fits in
        let q = a.row_fits in
        ((run.some, run_in, h, omega arith, omega arith), (a.flowing, omega arith))

    pub unmark_asks : {l₁ : ℕ} → l₁ ≡ length w → (k < s.wide * 64) × (s.wide * 64 < 2 ^ 64) × (s.mark + s.wide ≤ l₁) × (k < e) × (e ≤ k / 64 * 64 + 64)
    unmark_asks q =
        let l = d.sweep.len in
        let f = d.asked.swept.fits in
        let g = d.asked.swept.mark_fits in
        (h, d.asked.swept.small, omega arith, run.some, run.word)

    run_lines : (x : Range) → RunPiece (line_of blocks []) s w k e x → (es : List Edge) (ts : List Range) (f g : ℕ → Bool) → Pieced (line_of blocks es) ts f g s n w₀
        → line_pieces (line_of blocks es) ts f g e ≡ joined (line_pieces (line_of blocks es) ts f g k) x
    run_lines x p es ts f g o =
        let l = run.some in
        let v = run_in in
        same e (k + 1)
        (λ q. let z : e ≡ suc k = omega arith in let kn : k < n = omega arith in
        ap (λ (j : ℕ). line_pieces (line_of blocks es) ts f g j) z ∙ taken blocks s n w₀ es ts f g o k kn (sweep_mark d.sweep h)
        ∙ ap (joined (line_pieces (line_of blocks es) ts f g k)) (sym (p.one q ∙ piece_same (line_of blocks []) kn)))
        (λ q. let z : e ≡ suc (k + (e - 1 - k)) = omega arith in let y : k + (e - 1 - k) ≡ e - 1 = omega arith in
        taken_run blocks s n w₀ es ts f g o (e - 1 - k) k e z v d.all d.sound (own_marked q)
        ∙ ap (joined (line_pieces (line_of blocks es) ts f g k)) (ap (λ (j : ℕ). range (top (line_of blocks es) k) (bottom (line_of blocks es) j)) y ∙ sym (p.more q)))

    module _ {w₁ w₂ : List ℕ} {r' k' x : ℕ} (ex : RunPiece (line_of blocks []) s w k e (unpack x)) (j : JoinedIn w w₁ from r r' x)
        (u : Taken s k e w₁ w₂) (first : FirstSet w₂ s.mark s.wide (k / 64) k') where
      pub line_next : k < k'
      line_next = let z = sweep_next d.sweep h run.some j.listed.len j.listed.before j.listed.after j.most u first in let l = run.some in omega arith

      pub line_more : Lining blocks s n from w₀ w₂ k' r'
      line_more = record {
        asked = d.asked;
        covered = d.covered;
        sound = d.sound;
        all = d.all;
        sweep = sweep_more d.sweep h run.some j.listed.len j.listed.before j.listed.after j.most u first;
        pieces = λ es ts f g p. listed
            ∙ ap (λ (q : List Range). joined q (unpack x)) (d.pieces es ts f g p ∙ ap (λ (q : ℕ). line_pieces (line_of blocks es) ts f g q) least)
            ∙ sym (passed blocks s n w₀ es ts f g p e k' (sweep_next d.sweep h run.some j.listed.len j.listed.before j.listed.after j.most u first)
            (sweep_skip d.sweep h run.some j.listed.len j.listed.before j.listed.after j.most u first) run_in
            ∙ run_lines (unpack x) ex es ts f g p);
      }
        where
          least : min k n ≡ k
          least = let q = sweep_in d.sweep h in omega arith

          listed : unpacked (part from r' w₂) ≡ joined (unpacked (part from r w)) (unpack x)
          listed = ap unpacked (sweep_pieces d.sweep h run.some j.listed.len j.listed.before j.listed.after j.most u first) ∙ j.listed.is

  pub line_done : s.wide * 64 ≤ k → Visited blocks s n from r w₀ w
  line_done h =
      let a = d.sweep.within in
      let l = d.asked.swept.wide in
      let z : min k n ≡ n = omega arith in
      record {
        swept = sweep_done d.sweep h;
        pieces = λ es ts f g p. d.pieces es ts f g p ∙ ap (λ (q : ℕ). line_pieces (line_of blocks es) ts f g q) z;
      }

-- ---- the marks and the local's own row together

module _ (blocks : List ℕ) {s : Local} {n from : ℕ} {w₀ w₁ : List ℕ} (a : Visitable s n from w₀) (o : Both s n w₀) (row : Row w₀ w₁ s.mark s.wide (λ c. mark_bit s w₀ c || own_bit s w₀ c)) where
  pub both_asked : Visitable s n from w₁
  both_asked =
      let e = row.len in
      let g = a.swept in
      record {
        swept = record { wide = g.wide; small = g.small; mark_fits = g.mark_fits; fits = omega arith; past = λ c q l. row.bits c l ∙ rw (g.past c q l, o.bounded.past c q l) };
        row_fits = a.row_fits;
        mark_fits = a.mark_fits;
        span_fits = a.span_fits;
        flowing = a.flowing;
      }

  pub both_covered : Covered s w₁
  both_covered = record {
    marked = λ c l e. row.bits c l ∙ ap (λ (t : Bool). mark_bit s w₀ c || t) (sym (own_kept s n w₀ w₁ a.flowing row.before a.row_fits c l) ∙ e) ∙ or-true (mark_bit s w₀ c);
  }

  pieced : (es : List Edge) (ts : List Range) → Spans (line_of blocks es) s n ts w₀ → Pieced (line_of blocks es) ts (written_bit s w₀) (read_bit s w₀) s n w₁
  pieced es ts p = record {
    is = λ k h. go k h (mark_bit s w₁ k) refl;
  }
    where
      G : Graph
      G = line_of blocks es

      marked : (k : ℕ) → k < n → mark_bit s w₁ k ≡ (mark_bit s w₀ k || own_bit s w₀ k)
      marked k h = let l = a.swept.wide in row.bits k (omega arith)

      kept : (k : ℕ) → k < n → piece_at G s w₁ k ≡ piece_at G s w₀ k
      kept k h =
          let l = a.swept.wide in
          let m = a.mark_fits in
          piece_kept s n w₀ w₁ a.flowing row.before G k h a.row_fits (omega arith) (row.after (s.span + k) (omega arith))

      go : (k : ℕ) → k < n → (t : Bool) → mark_bit s w₁ k ≡ t → block_piece G ts (written_bit s w₀) (read_bit s w₀) k ≡ cond t (piece_at G s w₁ k ∷ []) []
      go k h true e = piece_here G s n ts w₀ p k h (o.bits k h) (sym (marked k h) ∙ e) ∙ ap (λ (r : Range). r ∷ []) (sym (kept k h))
      go k h false e = piece_none G s n ts w₀ p k h (o.bits k h) (sym (marked k h) ∙ e)

  pub both_lined : {w : List ℕ} {r : ℕ} → Visited blocks s n from r w₁ w → Lined blocks s n from r w₀ w
  both_lined v = record {
    swept = swept_after a.swept.mark_fits row.len row.before row.after v.swept;
    pieces = λ es ts p. v.pieces es ts (written_bit s w₀) (read_bit s w₀) (pieced es ts p);
  }
