-- "Lowest number wins" of `carried`: its verdict is the first of its checks, which give numbers 1, 2, 4, 5 and 7, in this order.
use Prim.Native.Nat.{ℕ}
use mathlib.Core.Path.{◌≡◌, refl}
use mathlib.Core.List.{List, [], ◌∷◌}
use lib.ListN.{length}
use Rattle.refusals.specs.declared.Refusal.TheVariants.{Count, Line, Inst, Stray, Space}
use Rattle.refusals.specs.Verdicts.{number_of, in_order}
use Rattle.refusals.specs.Orders.{Ordered}
use Rattle.carry_checks.specs.Checks.{carry_verdict}
use Rattle.carry_checks.proofs.OrderLaws.{carry_ordered}
use Rattle.carried_registers.specs.Carried.{most_of, carried_checks, verdict_of}

module _ (points v : ℕ) (blocks insts operands crossings locals addresses ends answer work : List ℕ) where
  pub carried_verdict : verdict_of points v blocks insts operands crossings locals addresses ends (length answer) (length work) ≡ in_order (carried_checks points v blocks insts operands crossings locals addresses ends answer work)
  unfolding carry_verdict
  carried_verdict = refl

  pub carried_ordered : Ordered number_of (Count ∷ Line ∷ Inst ∷ Inst ∷ Stray ∷ Stray ∷ Space ∷ []) (carried_checks points v blocks insts operands crossings locals addresses ends answer work)
  carried_ordered = carry_ordered v blocks insts operands crossings locals addresses ends points (length answer) (most_of v insts) (length work)
