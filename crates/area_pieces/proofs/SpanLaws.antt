-- The spans of a plain local's touches: one range put to a block's span, one touch to two of them, and all touches one after another.
use Prim.Native.Nat.{ℕ, suc, pred, ◌+◌, ◌-◌, ◌*◌, ◌/◌, ◌%◌, ◌^◌, ◌≤◌, ◌<◌, min, max}
use native.Mathlib.Omega.{arith}
use native.Mathlib.Numerals.{add-one}
use mathlib.Core.Path.{◌≡◌, refl, sym, ap, ◌∙◌}
use mathlib.Core.Logic.{◌≢◌}
use mathlib.Core.Bool.{Bool, true, false, cond}
use mathlib.Core.List.{List, [], ◌∷◌, ◌++◌, append-nil}
use lib.ListN.{length, get_or, take, set, length-set}
use lib.Seq.{get_or-set_same, take-suc, take_all}
use lib.Dec.{ltb}
use borrow.Author.Tests.{eq-eqb, ne_eqb, lt-ltb, le-ltb}
use Rattle.words.specs.Inner.{part}
use Rattle.words.specs.Widths.{block_count, block_start, block_end}
use Rattle.words.proofs.Points.{same}
use Rattle.words.proofs.RegionLaws.{length_part, get_d_part, kept_part_list}
use Rattle.bits.specs.Bits.{bit_of}
use Rattle.bits.specs.Inner.{PutBit}
use Rattle.ranges.specs.declared.Range.{Range}
use Rattle.ranges.specs.Points.{range}
use Rattle.ranges.specs.Inner.{pack, unpack, unpacked}
use Rattle.ranges.proofs.FormLaws.{unpack_pack, unpacked_at, unpacked_length}
use Rattle.graph.specs.Line.{blocks_of, Sound}
use Rattle.graph.specs.Inner.Work.{Within}
use Rattle.graph.proofs.Line.{start_is, end_is}
use Rattle.areas.specs.Blocks.{Graph, top, bottom, block_of, clip, InLine, AllInLine}
use Rattle.areas.specs.Pieces.{clips, through, throughs}
use Rattle.areas.proofs.BlockLaws.{bounds_first, bounds_last, block_rises}
use Rattle.spots.specs.declared.Spots.{Spots}
use Rattle.spots.specs.Spots.{line_of}
use Rattle.spots.specs.Inner.{touches_at}
use Rattle.spots.proofs.SpotLaws.{touch_in}
use Rattle.area_pieces.specs.declared.Local.{Local}
use Rattle.area_pieces.specs.Inner.{mark_bit, Free, Laid, Unmarked, span_at, hull, hulled, Spannable, Widened, Put, Spanned}
use Rattle.area_pieces.proofs.PushLaws.{set_other, pushed}
use Rattle.area_pieces.proofs.HullLaws.{hull_append, gather_append, gather_one, gather_none, clips_append, clips_none, clips_in, clips_out, bounds_not}

-- ---- one range put to a block's span

module _ (s : Local) where
  span_same : (w₀ w : List ℕ) (j : ℕ) → mark_bit s w j ≡ mark_bit s w₀ j → get_or w (s.span + j) 0 ≡ get_or w₀ (s.span + j) 0 → span_at s w j ≡ span_at s w₀ j
  span_same w₀ w j e f = rw (e, f)

  span_marked : (w : List ℕ) (k : ℕ) → mark_bit s w k ≡ true → span_at s w k ≡ unpack (get_or w (s.span + k) 0) ∷ []
  span_marked w k e = rw e

  span_unmarked : (w : List ℕ) (k : ℕ) → mark_bit s w k ≡ false → span_at s w k ≡ []
  span_unmarked w k e = rw e

  module _ (k : ℕ) (c : Range) (small : c.end < 2 ^ 32) (w : List ℕ) (p : Spannable s k w) where
    -- a bit after a store at the span of k
    mark_set : (v : List ℕ) (x j : ℕ) → length v ≡ length w → j < s.wide * 64 → mark_bit s (set v (s.span + k) x) j ≡ mark_bit s v j
    mark_set v x j e h = ap (λ (y : ℕ). bit_of y (j % 64)) (set_other v (s.span + k) x (s.mark + j / 64) (omega arith) (λ z. absurd (omega arith)))

    pub widen_more : mark_bit s w k ≡ true → (x : ℕ) → x ≡ get_or w (s.span + k) 0
        → Widened s k c w (set w (s.span + k) (pack (range (min (x / 2 ^ 32) c.start) (max (x % 2 ^ 32) c.end))))
    widen_more m x ex = record {
      len = simp length-set;
      here = span_marked (set w (s.span + k) (pack wide)) k (mark_set w (pack wide) k refl p.marked_in ∙ m)
          ∙ ap (λ (y : ℕ). unpack y ∷ []) (get_or-set_same w (s.span + k) (pack wide) 0 (omega arith))
          ∙ ap (λ (r : Range). r ∷ []) (unpack_pack (min (x / 2 ^ 32) c.start) (max (x % 2 ^ 32) c.end) (omega arith))
          ∙ sym (ap (λ (l : List Range). hulled l (c ∷ [])) (span_marked w k m ∙ ap (λ (y : ℕ). unpack y ∷ []) (sym ex)));
      there = λ j d h. span_same w (set w (s.span + k) (pack wide)) j (mark_set w (pack wide) j refl h) (set_other w (s.span + k) (pack wide) (s.span + j) (omega arith) (λ z. d (omega arith)));
      marks = λ j d h. mark_set w (pack wide) j refl h;
      before = λ i h. set_other w (s.span + k) (pack wide) i (omega arith) (λ z. absurd (omega arith));
      after = λ i h. set_other w (s.span + k) (pack wide) i (omega arith) (λ z. absurd (omega arith));
    }
      where
        wide : Range
        wide = range (min (x / 2 ^ 32) c.start) (max (x % 2 ^ 32) c.end)

    pub widen_new : mark_bit s w k ≡ false → {v : List ℕ} → PutBit w v s.mark k true → Widened s k c w (set v (s.span + k) (pack c))
    widen_new m {v} b = record {
      len = simp length-set b.len;
      here = span_marked (set v (s.span + k) (pack c)) k (mark_set v (pack c) k b.len p.marked_in ∙ b.bits k ∙ ap (λ (t : Bool). cond t true (mark_bit s w k)) (eq-eqb k k refl))
          ∙ ap (λ (y : ℕ). unpack y ∷ []) (get_or-set_same v (s.span + k) (pack c) 0 (let z = b.len in omega arith))
          ∙ ap (λ (r : Range). r ∷ []) (unpack_pack c.start c.end small)
          ∙ sym (ap (λ (l : List Range). hulled l (c ∷ [])) (span_unmarked w k m));
      there = λ j d h. span_same w (set v (s.span + k) (pack c)) j (marks j d h) (set_other v (s.span + k) (pack c) (s.span + j) (let z = b.len in omega arith) (λ z. d (omega arith)) ∙ b.rest (s.span + j) (λ z. absurd (omega arith)));
      marks = marks;
      before = λ i h. set_other v (s.span + k) (pack c) i (let z = b.len in omega arith) (λ z. absurd (omega arith)) ∙ b.rest i (λ z. absurd (omega arith));
      after = λ i h. set_other v (s.span + k) (pack c) i (let z = b.len in omega arith) (λ z. absurd (omega arith)) ∙ b.rest i (λ z. absurd (omega arith));
    }
      where
        marks : (j : ℕ) → j ≢ k → j < s.wide * 64 → mark_bit s (set v (s.span + k) (pack c)) j ≡ mark_bit s w j
        marks j d h = mark_set v (pack c) j b.len h ∙ b.bits j ∙ ap (λ (t : Bool). cond t true (mark_bit s w j)) (ne_eqb j k d)

-- ---- one touch

pub spannable : {s : Local} {n room : ℕ} (w₀ w : List ℕ) → Free s n room w₀ → length w ≡ length w₀ → (k : ℕ) → k < n → Spannable s k w
spannable w₀ w f e k h = record { marked_in = omega arith; span_in = omega arith; mark_fits = f.mark_fits; fits = omega arith }

-- what the code works out of a touch and a block
pub clipped : (blocks : List ℕ) (k x first last start end : ℕ) → k < block_count blocks → start ≡ x / 2 ^ 32 → end ≡ x % 2 ^ 32
    → first ≡ max start (block_start blocks k) → last ≡ min end (block_end blocks k) → range first last ≡ clip (line_of blocks []) k (unpack x)
clipped blocks k x first last start end h p q f l = rw (start_is blocks k h, end_is blocks k h, f, l, p, q)

pub between_is : (blocks : List ℕ) (f l y : ℕ) → f + 1 < l → l < block_count blocks → block_end blocks (l - 1) < 2 ^ 32
    → y ≡ pack (range (block_start blocks (f + 1)) (block_end blocks (l - 1))) → unpack y ≡ range (top (line_of blocks []) (f + 1)) (bottom (line_of blocks []) (l - 1))
between_is blocks f l y h n small e =
    ap unpack e ∙ unpack_pack (block_start blocks (f + 1)) (block_end blocks (l - 1)) small
    ∙ rw (start_is blocks (f + 1) (omega arith), end_is blocks (l - 1) (omega arith))

module _ (G : Graph) (S : Sound G.blocks) (s : Local) (x m : ℕ) (up : InLine G.blocks (unpack x)) where
  abbrev t : Range
  t = unpack x

  pub rises : block_of G t.start ≤ block_of G t.end
  rises = block_rises G S t.start t.end up.upright

  pub through_none : (f l : ℕ) → f ≡ block_of G t.start → l ≡ block_of G t.end → l ≤ f + 1 → through G t ≡ []
  through_none f l ef el h = let z : ltb (suc (block_of G t.start)) (block_of G t.end) ≡ false = le-ltb (suc (block_of G t.start)) (block_of G t.end) (omega arith) in rw z

  pub through_some : (f l : ℕ) → f ≡ block_of G t.start → l ≡ block_of G t.end → f + 1 < l → through G t ≡ range (top G (f + 1)) (bottom G (l - 1)) ∷ []
  through_some f l ef el h =
      let z : ltb (suc (block_of G t.start)) (block_of G t.end) ≡ true = lt-ltb (suc (block_of G t.start)) (block_of G t.end) (omega arith) in
      let a : suc (block_of G t.start) ≡ f + 1 = omega arith in
      let b : pred (block_of G t.end) ≡ l - 1 = omega arith in
      rw (z, a, b)

  -- the touch in its first and last block
  module _ (n f l : ℕ) (ef : f ≡ block_of G t.start) (el : l ≡ block_of G t.end) (wide : n ≤ s.wide * 64) where
    spans_one : {w₀ w : List ℕ} → l ≤ f → Widened s f (clip G f t) w₀ w → (k : ℕ) → k < n → span_at s w k ≡ hulled (span_at s w₀ k) (clips G (t ∷ []) k)
    spans_one {w₀} {w} h a k q =
        let r = rises in
        same k f
        (λ e. rw (e, clips_in G f t (bounds_first G f t (sym ef))) a.here)
        (λ d. rw (clips_out G k t (bounds_not G k t (λ z. d (sym z ∙ sym ef)) (λ z. d (omega arith)))) (a.there k d (omega arith)))

    spans_two : {w₀ w₁ w : List ℕ} → f < l → Widened s f (clip G f t) w₀ w₁ → Widened s l (clip G l t) w₁ w
        → (k : ℕ) → k < n → span_at s w k ≡ hulled (span_at s w₀ k) (clips G (t ∷ []) k)
    spans_two {w₀} {w₁} {w} h a b k q =
        same k f
        (λ e. rw (e, clips_in G f t (bounds_first G f t (sym ef))) (b.there f (omega arith) (omega arith) ∙ a.here))
        (λ d. same k l
        (λ e. rw (e, clips_in G l t (bounds_last G l t (sym el))) (b.here ∙ ap (λ (h : List Range). hulled h (clip G l t ∷ [])) (a.there l (omega arith) (omega arith))))
        (λ e. rw (clips_out G k t (bounds_not G k t (λ z. d (sym z ∙ sym ef)) (λ z. e (sym z ∙ sym el)))) (b.there k e (omega arith) ∙ a.there k d (omega arith))))

    module _ (fn : f < n) (ln : l < n) where
      pieces_kept : (w₀ w : List ℕ) → s.to + (m + 1) ≤ length w₀ → length w ≡ length w₀ → ((i : ℕ) → s.to ≤ i → get_or w i 0 ≡ get_or w₀ i 0) → part s.to m w ≡ part s.to m w₀
      pieces_kept w₀ w h e g = kept_part_list {w₀ = w₀} {w = w} {at = s.to} {n = m} (record { same = λ i a b. g i a }) (omega arith) e

      pub put_one : {w₀ w : List ℕ} → s.to + (m + 1) ≤ length w₀ → l ≤ f → Widened s f (clip G f t) w₀ w → Put G s n x m m w₀ w
      put_one {w₀} {w} room h a = record {
        len = a.len;
        spans = spans_one h a;
        past = λ c i j. a.marks c (omega arith) j;
        pieces = ap unpacked (pieces_kept w₀ w room a.len a.after) ∙ sym (append-nil (unpacked (part s.to m w₀)))
            ∙ ap (λ (q : List Range). unpacked (part s.to m w₀) ++ q) (sym (through_none f l ef el (omega arith)));
        least = omega arith;
        most = omega arith;
        before = a.before;
        after = λ i j. a.after i (omega arith);
      }

      pub put_two : {w₀ w₁ w : List ℕ} → s.to + (m + 1) ≤ length w₀ → f < l → l ≤ f + 1 → Widened s f (clip G f t) w₀ w₁ → Widened s l (clip G l t) w₁ w → Put G s n x m m w₀ w
      put_two {w₀} {w₁} {w} room g h a b = record {
        len = b.len ∙ a.len;
        spans = spans_two g a b;
        past = λ c i j. b.marks c (omega arith) j ∙ a.marks c (omega arith) j;
        pieces = ap unpacked (pieces_kept w₀ w room (b.len ∙ a.len) (λ i j. b.after i j ∙ a.after i j)) ∙ sym (append-nil (unpacked (part s.to m w₀)))
            ∙ ap (λ (q : List Range). unpacked (part s.to m w₀) ++ q) (sym (through_none f l ef el h));
        least = omega arith;
        most = omega arith;
        before = λ i j. b.before i j ∙ a.before i j;
        after = λ i j. b.after i (omega arith) ∙ a.after i (omega arith);
      }

      -- a piece behind the others leaves the spans
      span-pushed : (w : List ℕ) (y : ℕ) → s.mark + s.wide ≤ s.span → s.span + n ≤ s.to → s.to + m < length w → (k : ℕ) → k < n → span_at s (set w (s.to + m) y) k ≡ span_at s w k
      span-pushed w y a b c k h =
          span_same s w (set w (s.to + m) y) k
          (ap (λ (z : ℕ). bit_of z (k % 64)) (set_other w (s.to + m) y (s.mark + k / 64) c (λ z. absurd (omega arith))))
          (set_other w (s.to + m) y (s.span + k) c (λ z. absurd (omega arith)))

      pub put_three : {w₀ w₁ w : List ℕ} (y : ℕ) → s.mark + s.wide ≤ s.span → s.span + n ≤ s.to → s.to + (m + 1) ≤ length w₀ → f + 1 < l
          → unpack y ≡ range (top G (f + 1)) (bottom G (l - 1))
          → Widened s f (clip G f t) w₀ w₁ → Widened s l (clip G l t) w₁ w → Put G s n x m (m + 1) w₀ (set w (s.to + m) y)
      put_three {w₀} {w₁} {w} y p q room h ey a b =
          let z : length w ≡ length w₀ = b.len ∙ a.len in
          let g = pushed w s.to m (omega arith) y in
          record {
            len = g.len ∙ z;
            spans = λ k i. span-pushed w y p q (omega arith) k i ∙ spans_two (omega arith) a b k i;
            past = λ c i j. ap (λ (v : ℕ). bit_of v (c % 64)) (set_other w (s.to + m) y (s.mark + c / 64) (omega arith) (λ v. absurd (omega arith)))
                ∙ b.marks c (omega arith) j ∙ a.marks c (omega arith) j;
            pieces = g.is ∙ ap (λ (v : List ℕ). unpacked v ++ (unpack y ∷ [])) (pieces_kept w₀ w room z (λ i j. b.after i j ∙ a.after i j))
                ∙ ap (λ (r : Range). unpacked (part s.to m w₀) ++ (r ∷ [])) ey
                ∙ ap (λ (v : List Range). unpacked (part s.to m w₀) ++ v) (sym (through_some f l ef el h));
            least = omega arith;
            most = omega arith;
            before = λ i j. g.before i (omega arith) ∙ b.before i j ∙ a.before i j;
            after = λ i j. g.after i (omega arith) ∙ b.after i (omega arith) ∙ a.after i (omega arith);
          }

-- ---- all touches

pub touches_length : (t : Spots) (w : List ℕ) → t.at + t.count ≤ length w → length (touches_at t w) ≡ t.count
touches_length t w h = unpacked_length (part t.at t.count w) ∙ length_part t.at t.count w h

pub take_touch : (t : Spots) (w : List ℕ) (i : ℕ) → t.at + t.count ≤ length w → i < t.count → take (i + 1) (touches_at t w) ≡ take i (touches_at t w) ++ (unpack (get_or w (t.at + i) 0) ∷ [])
take_touch t w i h l =
    let z = touches_length t w h in
    ap (λ (k : ℕ). take k (touches_at t w)) (add-one i) ∙ take-suc (touches_at t w) i (range 0 0) (omega arith)
    ∙ ap (λ (r : Range). take i (touches_at t w) ++ (r ∷ [])) (unpacked_at (part t.at t.count w) i ∙ ap unpack (get_d_part t.at t.count w i l))

pub touch_in_line : (blocks : List ℕ) (t : Spots) (w : List ℕ) (i x : ℕ) → t.at + t.count ≤ length w → AllInLine (blocks_of blocks) (touches_at t w) → i < t.count → x ≡ get_or w (t.at + i) 0
    → InLine (blocks_of blocks) (unpack x)
touch_in_line blocks t w i x h u l e = rw e (u (unpack (get_or w (t.at + i) 0)) (touch_in w t.at t.count h i l))

-- the first i touches are put, with m between-pieces
pub record Spanning (G : Graph) (t : Spots) (s : Local) (n : ℕ) (w₀ w : List ℕ) (i m : ℕ) : Type 0 where
  pub laid : Laid t s n t.count w₀
  pub i_le : i ≤ t.count
  pub m_le : m ≤ i
  pub kept : Within s.mark (s.to + m) w₀ w
  pub spans : (k : ℕ) → k < n → span_at s w k ≡ hull (clips G (take i (touches_at t w₀)) k)
  pub past : (c : ℕ) → n ≤ c → c < s.wide * 64 → mark_bit s w c ≡ false
  pub pieces : unpacked (part s.to m w) ≡ throughs G (take i (touches_at t w₀))

pub span_start : (G : Graph) (t : Spots) (s : Local) (n : ℕ) (w : List ℕ) → Laid t s n t.count w → Unmarked s w → Spanning G t s n w w 0 0
span_start G t s n w laid u =
    let a = laid.free.wide in
    record {
      laid = laid;
      i_le = omega arith;
      m_le = omega arith;
      kept = record { len = refl; below = λ i _. refl; past = λ i _. refl };
      spans = λ k h. span_unmarked s w k (u.none k (omega arith)) ∙ ap hull (sym (clips_none G k));
      past = λ c _ h. u.none c h;
      pieces = sym (gather_none (through G));
    }

module _ {G : Graph} {t : Spots} {s : Local} {n : ℕ} {w₀ w : List ℕ} {i m : ℕ} (d : Spanning G t s n w₀ w i m) where
  pub span_word : i < t.count → get_or w (t.at + i) 0 ≡ get_or w₀ (t.at + i) 0
  span_word h = let a = d.laid.touches_fit in d.kept.below (t.at + i) (omega arith)

  pub span_free : i < t.count → Free s n (m + 1) w
  span_free h =
      let f = d.laid.free in
      let e = d.kept.len in
      let l = d.m_le in
      record { wide = f.wide; small = f.small; mark_fits = f.mark_fits; span_fits = f.span_fits; fits = omega arith }

  pub span_more : {w' : List ℕ} {m' : ℕ} (x : ℕ) → i < t.count → x ≡ get_or w (t.at + i) 0 → Put G s n x m m' w w' → Spanning G t s n w₀ w' (i + 1) m'
  span_more {w'} {m'} x h ex p =
      let a = p.most in
      let b = d.m_le in
      let c = p.least in
      record {
        laid = d.laid;
        i_le = omega arith;
        m_le = omega arith;
        kept = record { len = p.len ∙ d.kept.len; below = λ j q. p.before j q ∙ d.kept.below j q; past = λ j q. p.after j q ∙ d.kept.past j (omega arith) };
        spans = λ k q. p.spans k q ∙ ap (λ (l : List Range). hulled l (clips G (unpack x ∷ []) k)) (d.spans k q)
            ∙ sym (ap hull (ap (λ (l : List Range). clips G l k) next ∙ clips_append G k (take i (touches_at t w₀)) (unpack x ∷ [])) ∙ hull_append (clips G (take i (touches_at t w₀)) k) (clips G (unpack x ∷ []) k));
        past = λ c q l. p.past c q l ∙ d.past c q l;
        pieces = p.pieces ∙ ap (λ (l : List Range). l ++ through G (unpack x)) d.pieces
            ∙ sym (ap (throughs G) next ∙ gather_append (through G) (take i (touches_at t w₀)) (unpack x ∷ []) ∙ ap (λ (l : List Range). throughs G (take i (touches_at t w₀)) ++ l) (gather_one (through G) (unpack x)));
      }
    where
      fit : t.at + t.count ≤ length w₀
      fit =
          let a = d.laid.touches_fit in
          let f = d.laid.free in
          omega arith

      next : take (i + 1) (touches_at t w₀) ≡ take i (touches_at t w₀) ++ (unpack x ∷ [])
      next = rw (ex, span_word h) (take_touch t w₀ i fit h)

  pub span_done : t.count ≤ i → Spanned G s n (touches_at t w₀) m w₀ w
  span_done h =
      let a = d.m_le in
      let b = d.i_le in
      let l = touches_length t w₀ fit in
      record {
        kept = d.kept;
        spans = record { is = λ k q. rw (← all) (d.spans k q) };
        past = d.past;
        pieces = rw (← all) d.pieces;
        count = omega arith;
      }
    where
      fit : t.at + t.count ≤ length w₀
      fit =
          let a = d.laid.touches_fit in
          let f = d.laid.free in
          omega arith

      all : take i (touches_at t w₀) ≡ touches_at t w₀
      all = let l = touches_length t w₀ fit in let a = d.i_le in take_all i (touches_at t w₀) (omega arith)
