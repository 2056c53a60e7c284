-- Laws of `clashes`: it holds exactly when some point is in both lists.
use mathlib.Core.Path.{◌≡◌, refl, sym, ◌∙◌}
use mathlib.Core.Logic.{◌⊎◌, inl, inr}
use mathlib.Core.Bool.{Bool, true, false, ◌||◌, true≢false, false≢true}
use mathlib.Core.List.{List, [], ◌∷◌}
use Prim.Native.Nat.{ℕ, ◌≤◌, max}
use native.Mathlib.Omega.{arith}
use borrow.Author.Tests.{leb-true, le-leb}
use Rattle.words.proofs.Bools.{or_right, and_both, or_cases}
use Rattle.ranges.specs.declared.Range.{Range}
use Rattle.ranges.specs.Inner.{Within}
use Rattle.ranges.specs.Points.{Point, overlaps, Upright, Common}
use Rattle.ranges.specs.Merged.{meets, clashes}
use Rattle.ranges.proofs.PointLaws.{point_head, point_tail, point_none, point_cases, upright_head, upright_tail}

-- two upright ranges overlap exactly when they share a point
pub overlap_point : (r s : Range) → r.start ≤ r.end → s.start ≤ s.end → overlaps r s ≡ true → (x : ℕ) × Within r x × Within s x
overlap_point r s h k e =
    let p = and_both _ _ e in
    let a = leb-true r.start s.end p.0 in
    let b = leb-true s.start r.end p.1 in
    (max r.start s.start, (omega arith, omega arith), (omega arith, omega arith))

pub point_overlap : (r s : Range) (x : ℕ) → Within r x → Within s x → overlaps r s ≡ true
point_overlap r s x (a, b) (c, d) = rw (le-leb r.start s.end (omega arith), le-leb s.start r.end (omega arith))

meets_point : (r : Range) (ss : List Range) → r.start ≤ r.end → Upright ss → meets r ss ≡ true → (x : ℕ) × Within r x × Point ss x
unfolding meets
meets_point r [] h u e = absurd (false≢true e)
meets_point r (s ∷ ss) h u e = go (or_cases _ _ e) (meets_point r ss h (upright_tail s ss u))
  where
    go : (overlaps r s ≡ true) ⊎ (meets r ss ≡ true) → (meets r ss ≡ true → (x : ℕ) × Within r x × Point ss x) → (x : ℕ) × Within r x × Point (s ∷ ss) x
    go (inl d) ih = let q = overlap_point r s h (upright_head s ss u) d in (q.0, q.1, point_head s ss q.0 q.2.0 q.2.1)
    go (inr d) ih = let q = ih d in (q.0, q.1, point_tail s ss q.0 q.2)

point_meets : (r : Range) (ss : List Range) (x : ℕ) → Within r x → Point ss x → meets r ss ≡ true
unfolding meets
point_meets r [] x w p = absurd (point_none x p)
point_meets r (s ∷ ss) x w p = go (point_cases s ss x p) (point_meets r ss x w)
  where
    go : Within s x ⊎ Point ss x → (Point ss x → meets r ss ≡ true) → overlaps r s || meets r ss ≡ true
    go (inl v) ih = rw (point_overlap r s x w v)
    go (inr q) ih = or_right (overlaps r s) (meets r ss) (ih q)

pub clashes_common : (rs ss : List Range) → Upright rs → Upright ss → clashes rs ss ≡ true → Common rs ss
unfolding clashes
clashes_common [] ss u v e = absurd (false≢true e)
clashes_common (r ∷ rs) ss u v e = go (or_cases _ _ e) (clashes_common rs ss (upright_tail r rs u) v)
  where
    go : (meets r ss ≡ true) ⊎ (clashes rs ss ≡ true) → (clashes rs ss ≡ true → Common rs ss) → Common (r ∷ rs) ss
    go (inl d) ih = let q = meets_point r ss (upright_head r rs u) v d in (q.0, point_head r rs q.0 q.1.0 q.1.1, q.2)
    go (inr d) ih = let q = ih d in (q.0, point_tail r rs q.0 q.1, q.2)

pub common_clashes : (rs ss : List Range) → Common rs ss → clashes rs ss ≡ true
unfolding clashes
common_clashes [] ss (x, p, q) = absurd (point_none x p)
common_clashes (r ∷ rs) ss (x, p, q) = go (point_cases r rs x p) (λ c. common_clashes rs ss (x, c, q))
  where
    go : Within r x ⊎ Point rs x → (Point rs x → clashes rs ss ≡ true) → meets r ss || clashes rs ss ≡ true
    go (inl w) ih = rw (point_meets r ss x w q)
    go (inr c) ih = or_right (meets r ss) (clashes rs ss) (ih c)

-- no clash: no common point
pub apart_points : (rs ss : List Range) → clashes rs ss ≡ false → (x : ℕ) → Point rs x → Point ss x → ⊥
apart_points rs ss e x p q = true≢false (sym (common_clashes rs ss (x, p, q)) ∙ e)

-- and the other way round
pub no_common : (rs ss : List Range) → Upright rs → Upright ss → (Common rs ss → ⊥) → clashes rs ss ≡ false
no_common rs ss u v f = go (clashes rs ss) refl
  where
    go : (t : Bool) → clashes rs ss ≡ t → clashes rs ss ≡ false
    go true e = absurd (f (clashes_common rs ss u v e))
    go false e = e
