-- Laws of one local's marks: what each call leaves of the rows, by the local's touches and its ends as they are lent.
use Prim.Native.Nat.{ℕ, zero, suc, ◌+◌, ◌*◌, ◌/◌, ◌%◌, ◌≤◌, ◌<◌}
use native.Mathlib.Omega.{arith}
use mathlib.Core.Path.{◌≡◌, refl, ap, ◌∙◌, subst}
use mathlib.Core.Logic.{◌⊎◌, inl, inr, ⊎_elim}
use mathlib.Core.Bool.{Bool, true, false, not, ◌&&◌, ◌||◌}
use mathlib.Core.List.{List, []}
use lib.ListN.{length}
use lib.Dec.{eqb}
use borrow.Author.Tests.{eq-eqb, ne_eqb}
use Rattle.words.specs.Sort.{sort_of}
use Rattle.words.specs.Inner.{Kept}
use Rattle.words.specs.Widths.{block_count}
use Rattle.words.proofs.RegionLaws.{row_before, kept_part_list}
use Rattle.bits.specs.Bits.{bit_of}
use Rattle.ranges.specs.declared.Range.{Range}
use Rattle.graph.specs.Paths.{Edge}
use Rattle.graph.specs.Inner.Work.{Within}
use Rattle.graph.proofs.Within.{within_refl, within_trans, within_wider}
use Rattle.kind_numbers.specs.Numbers.{kind_by}
use Rattle.areas.specs.Blocks.{Graph, touched, leaves, passes}
use Rattle.spots.specs.declared.Spots.{Spots}
use Rattle.spots.specs.Spots.{line_of}
use Rattle.spots.specs.Inner.{touches_at, ends_at}
use Rattle.area_rows.specs.declared.Column.{Column}
use Rattle.area_rows.specs.Inner.{Marked, TouchesReady, EndsReady}
use Rattle.area_flow.specs.declared.Grid.{Grid}
use Rattle.area_flow.specs.Inner.{row_bit}
use Rattle.local_spots.specs.declared.Places.{Places}
use Rattle.local_spots.specs.Locals.{touches_for, ends_for}
use Rattle.local_spots.specs.Inner.{Fetched}
use Rattle.local_spots.proofs.OrderLaws.{passes_sorted, leaves_sorted}
use Rattle.local_marks.specs.Inner.{is_plain, is_ending, Ready, Bits, Marking, Standing, MarkedOne}

-- local l in the rows from `from` on
abbrev pub column_at : Grid → ℕ → ℕ → ℕ → Column
column_at g from n l = record { n = n; base = from; words = g.words; bit = l }

-- rows apart from what has changed
pub row_kept : {lo hi : ℕ} {w₀ w : List ℕ} (g : Grid) (from n : ℕ) → Within lo hi w₀ w → (from + n * g.words ≤ lo) ⊎ (hi ≤ from)
    → (k b : ℕ) → k < n → b < g.words * 64 → row_bit g from w k b ≡ row_bit g from w₀ k b
row_kept g from n K a k b h m =
    let r = row_before k n g.words h in
    ap (λ (y : ℕ). bit_of y (b % 64)) (⊎_elim (λ x. K.below (from + k * g.words + b / 64) (omega arith)) (λ x. K.past (from + k * g.words + b / 64) (omega arith)) a)

-- ---- the bits of rows

bits_kept : {g : Grid} {from n l : ℕ} {w₀ w : List ℕ} → l < g.words * 64 → ((k b : ℕ) → k < n → b < g.words * 64 → row_bit g from w k b ≡ row_bit g from w₀ k b) → Bits g from n l (λ k. row_bit g from w₀ k l) w₀ w
bits_kept {l = l} m K = record { column = λ k h. K k l h m; others = λ k b h q d. K k b h q }

bits_of : {g : Grid} {from n l : ℕ} {h : ℕ → Bool} {w₀ w : List ℕ} → Marked (column_at g from n l) h w₀ w → Bits g from n l h w₀ w
bits_of M = record { column = M.column; others = M.others }

bits_as : {g : Grid} {from n l : ℕ} {h : ℕ → Bool} (f : ℕ → Bool) {w₀ w : List ℕ} → Bits g from n l h w₀ w → ((k : ℕ) → k < n → h k ≡ f k) → Bits g from n l f w₀ w
bits_as f B e = record { column = λ k q. B.column k q ∙ e k q; others = B.others }

-- after, or before, a change elsewhere
bits_then : {g : Grid} {from n l : ℕ} {h : ℕ → Bool} {w₀ w₁ w₂ : List ℕ} → l < g.words * 64 → Bits g from n l h w₀ w₁
    → ((k b : ℕ) → k < n → b < g.words * 64 → row_bit g from w₂ k b ≡ row_bit g from w₁ k b) → Bits g from n l h w₀ w₂
bits_then {l = l} m B K = record { column = λ k q. K k l q m ∙ B.column k q; others = λ k b q o d. K k b q o ∙ B.others k b q o d }

bits_since : {g : Grid} {from n l : ℕ} {h : ℕ → Bool} {w₀ w₁ w₂ : List ℕ} → ((k b : ℕ) → k < n → b < g.words * 64 → row_bit g from w₁ k b ≡ row_bit g from w₀ k b) → Bits g from n l h w₁ w₂ → Bits g from n l h w₀ w₂
bits_since K B = record { column = B.column; others = λ k b q o d. B.others k b q o d ∙ K k b q o }

-- ---- the marks of one local

-- after a change before the rows
pub marking_since : {g : Grid} {n l lo hi : ℕ} {plain ending : Bool} {t v q : ℕ → Bool} {w₀ w₁ w : List ℕ} → Within lo hi w₀ w₁ → hi ≤ g.touched → g.touched ≤ g.leaves → g.leaves ≤ g.passes → l < g.words * 64
    → Marking g n l plain ending t v q w₁ w → Marking g n l plain ending t v q w₀ w
marking_since {g} {n} {l} {lo} {hi} {plain} {ending} {t} {v} {q} {w₀} {w₁} K a b c m N = record {
  touches_bits = bits_since (same g.touched (omega arith)) (bits_as _ N.touches_bits (λ k h. ap (λ (x : Bool). plain && t k || x) (same g.touched (omega arith) k l h m)));
  leaves_bits = bits_since (same g.leaves (omega arith)) (bits_as _ N.leaves_bits (λ k h. ap (λ (x : Bool). ending && v k || x) (same g.leaves (omega arith) k l h m)));
  passes_bits = bits_since (same g.passes (omega arith)) (bits_as _ N.passes_bits (λ k h. ap (λ (x : Bool). (not ending || q k) && x) (same g.passes (omega arith) k l h m)));
}
  where
    same : (from : ℕ) → hi ≤ from → (k b : ℕ) → k < n → b < g.words * 64 → row_bit g from w₁ k b ≡ row_bit g from w₀ k b
    same from x = row_kept g from n K (inr x)

-- a local that is neither plain nor ending has none
pub marking_none : {g : Grid} {n l lo hi : ℕ} {t v q : ℕ → Bool} {w₀ w : List ℕ} → Within lo hi w₀ w → hi ≤ g.touched → g.touched ≤ g.leaves → g.leaves ≤ g.passes → l < g.words * 64
    → Marking g n l false false t v q w₀ w
marking_none {g} {n} K a b c m = record {
  touches_bits = bits_kept m (row_kept g g.touched n K (inr (omega arith)));
  leaves_bits = bits_kept m (row_kept g g.leaves n K (inr (omega arith)));
  passes_bits = bits_kept m (row_kept g g.passes n K (inr (omega arith)));
}

-- the order of the ends does not matter
pub marking_sorted : {g : Grid} {n l : ℕ} {plain ending : Bool} (G : Graph) (ts : List Range) (es : List ℕ) {w₀ w : List ℕ} → Marking g n l plain ending (touched G ts) (leaves G ts (sort_of es)) (passes G (sort_of es)) w₀ w
    → Marking g n l plain ending (touched G ts) (leaves G ts es) (passes G es) w₀ w
marking_sorted {g} {n} {l} {plain} {ending} G ts es {w₀} {w} M =
    subst (λ (f : ℕ → Bool). Marking g n l plain ending (touched G ts) (leaves G ts es) f w₀ w) (passes_sorted G es)
    (subst (λ (f : ℕ → Bool). Marking g n l plain ending (touched G ts) f (passes G (sort_of es)) w₀ w) (leaves_sorted G es ts) M)

-- ---- one local whose touches and ends stand

module _ (blocks : List ℕ) (s : Spots) (g : Grid) (l : ℕ) {w₀ : List ℕ} (S : Standing blocks s g l w₀) where
  pub touches_ready : (from : ℕ) → g.touched ≤ from → from + block_count blocks * g.words ≤ length w₀ → TouchesReady blocks s (column_at g from (block_count blocks) l) w₀
  touches_ready from a b = record {
    line = S.line;
    places = refl;
    fits = record { bit_in = S.bit_in; rows_in = b };
    stand = S.stand.touches_fit;
    apart = inl (let q = S.touches_apart in omega arith);
  }

  pub ends_ready : (from : ℕ) {w : List ℕ} → length w ≡ length w₀ → g.touched ≤ from → from + block_count blocks * g.words ≤ length w₀ → EndsReady blocks s (column_at g from (block_count blocks) l) w
  ends_ready from e a b = record {
    line = S.line;
    places = refl;
    fits = record { bit_in = S.bit_in; rows_in = omega arith };
    stand = let q = S.stand.ends_fit in omega arith;
    apart = inl (let q = S.ends_apart in omega arith);
  }

  -- a plain local
  module _ {w : List ℕ} (T : (es : List Edge) → Marked (column_at g g.touched (block_count blocks) l) (λ k. touched (line_of blocks es) (touches_at s w₀) k || row_bit g g.touched w₀ k l) w₀ w) where
    pub plain_kept : Within g.touched (g.passes + block_count blocks * g.words) w₀ w
    plain_kept =
        let a = S.touched_fits in let b = S.leaves_fit in
        within_wider g.touched (g.passes + block_count blocks * g.words) (omega arith) (omega arith) (T []).kept

    pub plain_marking : (plain : Bool) → plain ≡ true → (es : List Edge)
        → Marking g (block_count blocks) l plain (not plain) (touched (line_of blocks es) (touches_at s w₀)) (leaves (line_of blocks es) (touches_at s w₀) (ends_at s w₀)) (passes (line_of blocks es) (ends_at s w₀)) w₀ w
    plain_marking plain e es =
        let a = S.touched_fits in let b = S.leaves_fit in
        rw e (record {
          touches_bits = bits_of (T es);
          leaves_bits = bits_kept S.bit_in (row_kept g g.leaves (block_count blocks) (T es).kept (inr (omega arith)));
          passes_bits = bits_kept S.bit_in (row_kept g g.passes (block_count blocks) (T es).kept (inr (omega arith)));
        })

  -- an ending local
  module _ {w₁ w : List ℕ}
      (Lv : (es : List Edge) → Marked (column_at g g.leaves (block_count blocks) l) (λ k. leaves (line_of blocks es) (touches_at s w₀) (ends_at s w₀) k || row_bit g g.leaves w₀ k l) w₀ w₁)
      (P : (es : List Edge) → Marked (column_at g g.passes (block_count blocks) l) (λ k. passes (line_of blocks es) (ends_at s w₁) k && row_bit g g.passes w₁ k l) w₁ w) where
    pub ending_kept : Within g.touched (g.passes + block_count blocks * g.words) w₀ w
    ending_kept =
        let a = S.touched_fits in let b = S.leaves_fit in
        within_trans (within_wider g.touched (g.passes + block_count blocks * g.words) (omega arith) (omega arith) (Lv []).kept)
        (within_wider g.touched (g.passes + block_count blocks * g.words) (omega arith) (omega arith) (P []).kept)

    -- the ends have stood
    ends_same : ends_at s w₁ ≡ ends_at s w₀
    ends_same =
        let a = S.touched_fits in let b = S.ends_apart in let c = S.stand.ends_fit in
        let K : Kept w₀ w₁ s.ends s.stops = record { same = λ i x y. (Lv []).kept.below i (omega arith) } in
        kept_part_list K c (Lv []).kept.len

    pub ending_marking : (plain : Bool) → plain ≡ false → (es : List Edge)
        → Marking g (block_count blocks) l plain (not plain) (touched (line_of blocks es) (touches_at s w₀)) (leaves (line_of blocks es) (touches_at s w₀) (ends_at s w₀)) (passes (line_of blocks es) (ends_at s w₀)) w₀ w
    ending_marking plain e es =
        let a = S.touched_fits in let b = S.leaves_fit in
        let before : (k j : ℕ) → k < block_count blocks → j < g.words * 64 → row_bit g g.passes w₁ k j ≡ row_bit g g.passes w₀ k j = row_kept g g.passes (block_count blocks) (Lv es).kept (inr (omega arith)) in
        rw e (record {
          touches_bits = bits_kept S.bit_in (row_kept g g.touched (block_count blocks) ending-kept-past (inl (omega arith)));
          leaves_bits = bits_then S.bit_in (bits_of (Lv es)) (row_kept g g.leaves (block_count blocks) (P es).kept (inl (omega arith)));
          passes_bits = bits_since before (bits_as (λ k. passes (line_of blocks es) (ends_at s w₀) k && row_bit g g.passes w₀ k l) (bits_of (P es))
              (λ k h. ap (λ (x : List ℕ). passes (line_of blocks es) x k && row_bit g g.passes w₁ k l) ends_same ∙ ap (λ (x : Bool). passes (line_of blocks es) (ends_at s w₀) k && x) (before k l h S.bit_in)));
        })
      where
        ending-kept-past : Within g.leaves (g.passes + block_count blocks * g.words) w₀ w
        ending-kept-past =
            let b = S.leaves_fit in
            within_trans (within_wider g.leaves (g.passes + block_count blocks * g.words) (omega arith) (omega arith) (Lv []).kept)
            (within_wider g.leaves (g.passes + block_count blocks * g.words) (omega arith) (omega arith) (P []).kept)

-- ---- one local by the number of its kind

-- marked as plain where the number is 1, else as ending
by_kind : (kind : ℕ) → 0 < kind → {g : Grid} {n l : ℕ} {t v q : ℕ → Bool} {w₀ w : List ℕ} → Marking g n l (eqb kind 1) (not (eqb kind 1)) t v q w₀ w
    → Marking g n l (is_plain (kind_by kind)) (is_ending (kind_by kind)) t v q w₀ w
by_kind zero u M = absurd (omega arith)
by_kind (suc zero) u {g} {n} {l} {t} {v} {q} {w₀} {w} M = subst (λ (b : Bool). Marking g n l b (not b) t v q w₀ w) (eq-eqb 1 1 refl) M
by_kind (suc (suc k)) u {g} {n} {l} {t} {v} {q} {w₀} {w} M = subst (λ (b : Bool). Marking g n l b (not b) t v q w₀ w) (ne_eqb (suc (suc k)) 1 (λ e. absurd (omega arith))) M

-- an unfollowed local is not marked
pub none_one : {p : Places} {g : Grid} {blocks touches ends : List ℕ} {l : ℕ} {w : List ℕ} → Ready p g blocks touches ends w → l < p.locals → (kind : ℕ) → kind ≡ 0
    → (es : List Edge) → MarkedOne (line_of blocks es) kind touches ends g (block_count blocks) l w w
none_one {w = w} R h kind e es =
    let a = R.touched_fits in let b = R.leaves_fit in let c = R.long in let d = R.counted in
    rw e (marking_none (within_refl 0 0 w) (omega arith) (omega arith) (omega arith) (omega arith))

-- ---- one local, fetched

module _ {p : Places} {g : Grid} {blocks touches ends : List ℕ} {l : ℕ} {w₀ w₁ : List ℕ} {s : Spots} (R : Ready p g blocks touches ends w₀) (h : l < p.locals) (F : Fetched p touches ends l w₀ w₁ s) where
  pub standing : Standing blocks s g l w₁
  standing =
      let a = R.apart in let b = R.long in let c = R.counted in let d = R.passes_fit in let k = F.kept.len in
      let x = F.touches_high in let y = F.ends_high in let z = R.laid.at_fits in
      record {
        line = R.line;
        stand = F.stand;
        in_line = rw F.touches_are (R.in_line l);
        bit_in = omega arith;
        touches_apart = omega arith;
        ends_apart = omega arith;
        touched_fits = R.touched_fits;
        leaves_fit = R.leaves_fit;
        passes_fit = omega arith;
      }

  fetched_kept : Within p.at (g.passes + block_count blocks * g.words) w₀ w₁
  fetched_kept = let a = R.apart in let b = R.touched_fits in let c = R.leaves_fit in within_wider p.at (g.passes + block_count blocks * g.words) (omega arith) (omega arith) F.kept

  module _ {w : List ℕ} (K : Within g.touched (g.passes + block_count blocks * g.words) w₁ w) where
    pub one_kept : Within p.at (g.passes + block_count blocks * g.words) w₀ w
    one_kept = let a = R.apart in let z = R.laid.at_fits in within_trans fetched_kept (within_wider p.at (g.passes + block_count blocks * g.words) (omega arith) (omega arith) K)

    pub marked_one : (kind : ℕ) → 0 < kind
        → ((es : List Edge) → Marking g (block_count blocks) l (eqb kind 1) (not (eqb kind 1)) (touched (line_of blocks es) (touches_at s w₁)) (leaves (line_of blocks es) (touches_at s w₁) (ends_at s w₁)) (passes (line_of blocks es) (ends_at s w₁)) w₁ w)
        → (es : List Edge) → MarkedOne (line_of blocks es) kind touches ends g (block_count blocks) l w₀ w
    marked_one kind u M es = by_kind kind u since
      where
        G : Graph
        G = line_of blocks es

        -- by the touches and the ends as they are lent
        lent : Marking g (block_count blocks) l (eqb kind 1) (not (eqb kind 1)) (touched G (touches_for touches l)) (leaves G (touches_for touches l) (ends_for ends l)) (passes G (ends_for ends l)) w₁ w
        lent =
            marking_sorted G (touches_for touches l) (ends_for ends l)
            (subst (λ (es : List ℕ). Marking g (block_count blocks) l (eqb kind 1) (not (eqb kind 1)) (touched G (touches_for touches l)) (leaves G (touches_for touches l) es) (passes G es) w₁ w) F.ends_are
            (subst (λ (ts : List Range). Marking g (block_count blocks) l (eqb kind 1) (not (eqb kind 1)) (touched G ts) (leaves G ts (ends_at s w₁)) (passes G (ends_at s w₁)) w₁ w) F.touches_are (M es)))

        since : Marking g (block_count blocks) l (eqb kind 1) (not (eqb kind 1)) (touched G (touches_for touches l)) (leaves G (touches_for touches l) (ends_for ends l)) (passes G (ends_for ends l)) w₀ w
        since =
            let a = R.touched_fits in let b = R.leaves_fit in let c = R.long in let d = R.counted in
            marking_since F.kept R.apart (omega arith) (omega arith) (omega arith) lent
