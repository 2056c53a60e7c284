-- Ranges put to a list one after another through `joined`: the points are those of both.
use Prim.Native.Nat.{ℕ, ◌≤◌}
use mathlib.Core.Logic.{◌⊎◌, inl, inr}
use mathlib.Core.List.{List, [], ◌∷◌}
use Rattle.ranges.specs.declared.Range.{Range}
use Rattle.ranges.specs.Inner.{Within}
use Rattle.ranges.specs.Points.{Point, Upright}
use Rattle.ranges.specs.Merged.{joined}
use Rattle.ranges.proofs.PointLaws.{point_none, point_cases, point_head, point_tail, upright_head, upright_tail}
use Rattle.ranges.proofs.JoinLaws.{joined_upright, joined_keeps, joined_adds, joined_only}
use Rattle.areas.specs.Pieces.{join_each}

pub each_upright : (rs more : List Range) → Upright rs → Upright more → Upright (join_each rs more)
unfolding join_each
each_upright rs [] u v = u
each_upright rs (r ∷ more) u v = each_upright (joined rs r) more (joined_upright rs r u (upright_head r more v)) (upright_tail r more v)

pub each_keeps : (rs more : List Range) (x : ℕ) → Upright more → Point rs x → Point (join_each rs more) x
unfolding join_each
each_keeps rs [] x v p = p
each_keeps rs (r ∷ more) x v p = each_keeps (joined rs r) more x (upright_tail r more v) (joined_keeps rs r x (upright_head r more v) p)

pub each_adds : (rs more : List Range) (x : ℕ) → Upright rs → Upright more → Point more x → Point (join_each rs more) x
unfolding join_each
each_adds rs [] x u v p = absurd (point_none x p)
each_adds rs (r ∷ more) x u v p = go (point_cases r more x p) (each_adds (joined rs r) more x)
  where
    h : r.start ≤ r.end
    h = upright_head r more v

    go : Within r x ⊎ Point more x → (Upright (joined rs r) → Upright more → Point more x → Point (join_each (joined rs r) more) x)
        → Point (join_each (joined rs r) more) x
    go (inl (i, j)) ih = each_keeps (joined rs r) more x (upright_tail r more v) (joined_adds rs r x u i j)
    go (inr q) ih = ih (joined_upright rs r u h) (upright_tail r more v) q

pub each_only : (rs more : List Range) (x : ℕ) → Point (join_each rs more) x → Point rs x ⊎ Point more x
unfolding join_each
each_only rs [] x p = inl p
each_only rs (r ∷ more) x p = go (each_only (joined rs r) more x p)
  where
    mine : Point rs x ⊎ Within r x → Point rs x ⊎ Point (r ∷ more) x
    mine (inl q) = inl q
    mine (inr (i, j)) = inr (point_head r more x i j)

    go : Point (joined rs r) x ⊎ Point more x → Point rs x ⊎ Point (r ∷ more) x
    go (inl q) = mine (joined_only rs r x q)
    go (inr q) = inr (point_tail r more x q)
