-- Laws of the marks: places in a row, each touch in turn, each end in turn, and the definitions that they come to.
use Prim.Native.Nat.{ℕ, ◌+◌, ◌*◌, ◌/◌, ◌%◌, ◌^◌, ◌≤◌, ◌<◌}
use native.Mathlib.Omega.{arith}
use mathlib.Core.Path.{◌≡◌, refl, sym, ap, ◌∙◌, subst}
use mathlib.Core.Logic.{◌⊎◌, inl, inr, ⊎_elim}
use mathlib.Core.Bool.{Bool, true, false, ◌||◌}
use mathlib.Core.List.{List, [], ◌∷◌, Memᴰ}
use lib.ListN.{length, get_or}
use borrow.Author.Tests.{leb-true, le-leb}
use Rattle.words.specs.Inner.{Kept}
use Rattle.words.proofs.Points.{same}
use Rattle.words.proofs.Bools.{and_both, or_cases, and_pair, both_ways}
use Rattle.ranges.specs.declared.Range.{Range}
use Rattle.ranges.specs.Points.{range, overlaps}
use Rattle.ranges.specs.Inner.{unpack}
use Rattle.graph.specs.Paths.{Edge}
use Rattle.graph.specs.Line.{blocks_of, Sound}
use Rattle.graph.specs.Inner.Work.{Within}
use Rattle.graph.proofs.Line.{blocks_length}
use Rattle.carrying.specs.Lists.{any}
use Rattle.carrying.proofs.ListLaws.{any_true, any_entry}
use Rattle.areas.specs.Blocks.{Graph, top, bottom, whole, block_of, touched, InLine, AllInLine}
use Rattle.areas.proofs.BlockLaws.{bounds_first, bounds_last, between_test, block_is, block_rises, touched_bound, touched_between}
use Rattle.spots.specs.declared.Spots.{Spots}
use Rattle.spots.specs.Spots.{line_of}
use Rattle.spots.specs.Inner.{touches_at}
use Rattle.spots.proofs.SpotLaws.{touch_in, touch_of, unpack_is}
use Rattle.area_rows.specs.declared.Column.{Column}
use Rattle.area_rows.specs.Inner.{marked, Fits, Marked, TouchesReady, Put, spans}
use Rattle.area_rows.proofs.PutLaws.{put_none, put_then, put_as, put_fits, put_set}

pub any_same : {A : Type 0} (f g : A → Bool) (l : List A) → ((a : A) → Memᴰ a l → f a ≡ g a) → any f l ≡ any g l
unfolding any
any_same f g [] h = refl
any_same f g (a ∷ l) h = ap (λ (s : Bool). s || any f l) (h a (Memᴰ.head refl)) ∙ ap (λ (s : Bool). g a || s) (any_same f g l (λ b m. h b (Memᴰ.tail m)))

pub marked_as : {c : Column} {g : ℕ → Bool} (h : ℕ → Bool) {w₀ w : List ℕ} → Marked c g w₀ w → ((k : ℕ) → k < c.n → g k ≡ h k) → Marked c h w₀ w
marked_as h m e = record { kept = m.kept; column = λ k l. m.column k l ∙ e k l; others = m.others }

-- ---- places in a row

pub record Placing (c : Column) (from to : ℕ) (w₀ w : List ℕ) (k : ℕ) : Type 0 where
  pub fits : Fits c w
  pub put : Put c true (λ j. (from ≤ j) × (j < k)) w₀ w
  pub begun : from ≤ k
  pub at_most : (k ≡ from) ⊎ (k ≤ to)

pub places_start : (c : Column) (from to : ℕ) (w : List ℕ) → Fits c w → Placing c from to w w from
places_start c from to w f = record {
  fits = f;
  put = put_as (λ j. (from ≤ j) × (j < from)) (put_none c true w) (λ k h s. absurd s) (λ k h p. omega arith);
  begun = omega arith;
  at_most = inl refl;
}

module _ {c : Column} {from to : ℕ} {w₀ w : List ℕ} {k : ℕ} (p : Placing c from to w₀ w k) where
  pub places_more : {w' : List ℕ} → k < to → Put c true (λ j. j ≡ k) w w' → Placing c from to w₀ w' (k + 1)
  places_more h q = record {
    fits = put_fits p.fits q;
    put = put_as (λ j. (from ≤ j) × (j < k + 1)) (put_then p.put q)
        (λ j l s. let b = p.begun in ⊎_elim (λ a. (a.0, let z = a.1 in omega arith)) (λ e. (omega arith, omega arith)) s)
        (λ j l a. let (x, y) = a in same j k (λ e. inr e) (λ d. inl (x, omega arith)));
    begun = let b = p.begun in omega arith;
    at_most = inr (omega arith);
  }

  pub places_done : to ≤ k → Put c true (λ j. (from ≤ j) × (j < to)) w₀ w
  places_done h = put_as (λ j. (from ≤ j) × (j < to)) p.put
      (λ j l a. let (x, y) = a in (x, ⊎_elim (λ e. absurd (omega arith)) (λ e. omega arith) p.at_most))
      (λ j l a. let (x, y) = a in (x, omega arith))

-- ---- a touch's blocks

pub touch_spans : {c : Column} {w₀ w : List ℕ} (G : Graph) (t : Range) (first last : ℕ) → first ≡ block_of G t.start → last ≡ block_of G t.end
    → Put c true (λ j. (first ≤ j) × (j < last + 1)) w₀ w → Put c true (λ j. spans G t j ≡ true) w₀ w
touch_spans G t first last e f p = put_as (λ j. spans G t j ≡ true) p
    (λ j l a. let (x, y) = a in and_pair _ _ (le-leb (block_of G t.start) j (omega arith)) (le-leb j (block_of G t.end) (omega arith)))
    (λ j l s. let (x, y) = and_both _ _ s in let u = leb-true (block_of G t.start) j x in let v = leb-true j (block_of G t.end) y in (omega arith, omega arith))

-- a touch in the line has a point in just the blocks that it spans
pub spans_overlap : (G : Graph) → Sound G.blocks → (t : Range) → InLine G.blocks t → (k : ℕ) → k < length G.blocks → spans G t k ≡ overlaps t (whole G k)
unfolding any
spans_overlap G S t i k h = both_ways (spans G t k) (overlaps t (whole G k)) to fro
  where
    one : touched G (t ∷ []) k ≡ true → overlaps t (whole G k) ≡ true
    one e = ⊎_elim (λ a. a) (λ a. absurd (let z : ◌≡◌ {A = ℕ} 0 1 = cc in omega arith)) (or_cases (overlaps t (whole G k)) false e)

    to : spans G t k ≡ true → overlaps t (whole G k) ≡ true
    to s =
        let (x, y) = and_both _ _ s in
        let u = leb-true (block_of G t.start) k x in
        let v = leb-true k (block_of G t.end) y in
        same (block_of G t.start) k
        (λ e. one (touched_bound G S (t ∷ []) k t (Memᴰ.head refl) i (bounds_first G k t e)))
        (λ d. same (block_of G t.end) k
        (λ e. one (touched_bound G S (t ∷ []) k t (Memᴰ.head refl) i (bounds_last G k t e)))
        (λ f. one (touched_between G S (t ∷ []) k t (Memᴰ.head refl) i h (between_test G k t (omega arith) (omega arith)))))

    fro : overlaps t (whole G k) ≡ true → spans G t k ≡ true
    fro o =
        let (x, y) = and_both _ _ o in
        let u = leb-true t.start (bottom G k) x in
        let v = leb-true (top G k) t.end y in
        let up = S.upright k h in
        let a = block_rises G S t.start (bottom G k) u in
        let b = block_rises G S (top G k) t.end v in
        let p = block_is G S k (bottom G k) (record { block = h; above = up; under = omega arith }) in
        let q = block_is G S k (top G k) (record { block = h; above = omega arith; under = up }) in
        and_pair _ _ (le-leb (block_of G t.start) k (omega arith)) (le-leb k (block_of G t.end) (omega arith))

-- ---- each touch in turn

-- what stands apart from the rows is as it was
pub beside : {lo hi : ℕ} {w₀ w : List ℕ} (at count : ℕ) → Within lo hi w₀ w → (at + count ≤ lo) ⊎ (hi ≤ at) → (i : ℕ) → i < count → get_or w (at + i) 0 ≡ get_or w₀ (at + i) 0
beside at count K a i h = ⊎_elim (λ e. K.below (at + i) (omega arith)) (λ e. K.past (at + i) (omega arith)) a

pub kept_beside : {lo hi : ℕ} {w₀ w : List ℕ} (at count : ℕ) → Within lo hi w₀ w → (at + count ≤ lo) ⊎ (hi ≤ at) → Kept w₀ w at count
kept_beside at count K a = record { same = λ x l h. ⊎_elim (λ e. K.below x (omega arith)) (λ e. K.past x (omega arith)) a }

-- the first i touches have been marked where f says
pub record Sweeping (f : Range → ℕ → Bool) (s : Spots) (c : Column) (w₀ w : List ℕ) (i : ℕ) : Type 0 where
  pub fits : Fits c w
  pub stand : s.at + s.count ≤ length w₀
  pub apart : (s.at + s.count ≤ c.base) ⊎ (c.base + c.n * c.words ≤ s.at)
  pub put : Put c true (λ j. (m : ℕ) × (m < i) × (f (unpack (get_or w₀ (s.at + m) 0)) j ≡ true)) w₀ w
  pub at_most : i ≤ s.count

pub sweep_start : {blocks : List ℕ} {s : Spots} {c : Column} {w : List ℕ} (f : Range → ℕ → Bool) → TouchesReady blocks s c w → Sweeping f s c w w 0
sweep_start {s = s} {c} {w} f r = record {
  fits = r.fits;
  stand = r.stand;
  apart = r.apart;
  put = put_as (λ j. (m : ℕ) × (m < 0) × (f (unpack (get_or w (s.at + m) 0)) j ≡ true)) (put_none c true w) (λ k h s. absurd s) (λ k h p. let l = p.1 in absurd (omega arith));
  at_most = omega arith;
}

module _ {f : Range → ℕ → Bool} {s : Spots} {c : Column} {w₀ w : List ℕ} {i : ℕ} (p : Sweeping f s c w₀ w i) where
  pub sweep_word : i < s.count → get_or w (s.at + i) 0 ≡ get_or w₀ (s.at + i) 0
  sweep_word h = beside s.at s.count p.put.kept p.apart i h

  pub sweep_more : {w' : List ℕ} (a b : ℕ) → i < s.count → a ≡ get_or w (s.at + i) 0 / 2 ^ 32 → b ≡ get_or w (s.at + i) 0 % 2 ^ 32
      → Put c true (λ j. f (range a b) j ≡ true) w w' → Sweeping f s c w₀ w' (i + 1)
  sweep_more a b h e g q = record {
    fits = put_fits p.fits q;
    stand = p.stand;
    apart = p.apart;
    put = put_as (λ j. (m : ℕ) × (m < i + 1) × (f (unpack (get_or w₀ (s.at + m) 0)) j ≡ true)) (put_then p.put q)
        (λ j l o. ⊎_elim (λ t. let (m, k, z) = t in (m, omega arith, z)) (λ z. (i, omega arith, subst (λ (t : Range). f t j ≡ true) word z)) o)
        (λ j l t. let (m, k, z) = t in same m i (λ d. inr (subst (λ (t : Range). f t j ≡ true) (sym word) (subst (λ (n : ℕ). f (unpack (get_or w₀ (s.at + n) 0)) j ≡ true) d z))) (λ d. inl (m, omega arith, z)));
    at_most = omega arith;
  }
    where
      word : range a b ≡ unpack (get_or w₀ (s.at + i) 0)
      word = unpack_is (get_or w (s.at + i) 0) a b e g ∙ ap unpack (sweep_word h)

  pub sweep_done : s.count ≤ i → Marked c (λ k. any (λ t. f t k) (touches_at s w₀) || marked c w₀ k) w₀ w
  sweep_done h = put_set (λ k. any (λ t. f t k) (touches_at s w₀)) p.put
      (λ k l t. let (m, g, z) = t in any_true (λ t. f t k) (touches_at s w₀) (unpack (get_or w₀ (s.at + m) 0)) (touch_in w₀ s.at s.count p.stand m (let q = p.at_most in omega arith)) z)
      (λ k l e. let (t, m, z) = any_entry (λ t. f t k) (touches_at s w₀) e in
      let (j, g, q) = touch_of w₀ s.at s.count p.stand t m in
      (j, omega arith, subst (λ (t : Range). f t k ≡ true) (sym q) z))

-- the touches have been marked: the touched blocks
pub touched_done : {blocks : List ℕ} {s : Spots} {c : Column} {w₀ w : List ℕ} → TouchesReady blocks s c w₀ → AllInLine (blocks_of blocks) (touches_at s w₀)
    → Marked c (λ k. any (λ t. spans (line_of blocks []) t k) (touches_at s w₀) || marked c w₀ k) w₀ w
    → (es : List Edge) → Marked c (λ k. touched (line_of blocks es) (touches_at s w₀) k || marked c w₀ k) w₀ w
touched_done {blocks} {s} {c} {w₀} {w} r n p es = marked_as (λ k. touched (line_of blocks es) (touches_at s w₀) k || marked c w₀ k) p
    (λ k h. ap (λ (t : Bool). t || marked c w₀ k)
    (any_same (λ t. spans (line_of blocks []) t k) (λ t. overlaps t (whole (line_of blocks []) k)) (touches_at s w₀)
    (λ t m. spans_overlap (line_of blocks []) r.line t (n t m) k
    (let e = r.places in let l = blocks_length blocks in omega arith))))
