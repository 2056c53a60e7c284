-- What arrives is the least solution of `spread`'s equation, and arrives by a path from a block that it leaves through blocks that it passes.
use Prim.Native.Nat.{ℕ}
use mathlib.Core.Path.{◌≡◌}
use mathlib.Core.Logic.{◌↔◌, ◌⊎◌, inl, inr}
use mathlib.Core.Bool.{Bool, true}
use mathlib.Core.List.{List}
use Rattle.graph.specs.Paths.{Edge, Link}
use Rattle.graph.specs.Flow.{Arrives, left, passed}
use Rattle.graph.specs.Inner.Flow.{Passing, one, more, Solution}

module _ (es : List Edge) (leaves passes : ℕ → Bool) where
  pub arrives_solves : Solution es leaves passes (Arrives es leaves passes)
  arrives_solves = record { leaving = λ l e. left l e; passing = λ l a e. passed l a e }

  pub arrives_least : (R : ℕ → Type 0) → Solution es leaves passes R → (k : ℕ) → Arrives es leaves passes k → R k
  arrives_least R s k (left l e) = s.leaving l e
  arrives_least R s k (passed {j} l a e) = s.passing l (arrives_least R s j a) e

  -- and nothing arrives but what a predecessor passes on or leaves
  pub arrives_from : (k : ℕ) → Arrives es leaves passes k → (j : ℕ) × Link es j k × ((leaves j ≡ true) ⊎ (Arrives es leaves passes j × (passes j ≡ true)))
  arrives_from k (left {j} l e) = (j, l, inl e)
  arrives_from k (passed {j} l a e) = (j, l, inr (a, e))

  arrives_path : (k : ℕ) → Arrives es leaves passes k → (j : ℕ) × (leaves j ≡ true) × Passing es passes j k
  arrives_path k (left {j} l e) = (j, e, one l)
  arrives_path k (passed {j} l a e) = let p = arrives_path j a in (p.0, p.1, more p.2 e l)

  path_arrives : {j k : ℕ} → leaves j ≡ true → Passing es passes j k → Arrives es leaves passes k
  path_arrives e (one l) = left l e
  path_arrives e (more p h l) = passed l (path_arrives e p) h

  pub arrives_by_path : (k : ℕ) → Arrives es leaves passes k ↔ ((j : ℕ) × (leaves j ≡ true) × Passing es passes j k)
  arrives_by_path k = (arrives_path k, λ p. path_arrives p.1 p.2)
