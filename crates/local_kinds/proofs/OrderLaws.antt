-- "Lowest number wins" of `reach`: its verdict is the first of its checks, which give numbers 1, 2, 4, 5 and 7, in this order.
use Prim.Native.Nat.{ℕ}
use mathlib.Core.Path.{◌≡◌, refl}
use mathlib.Core.List.{List, [], ◌∷◌}
use lib.ListN.{length}
use Rattle.refusals.specs.declared.Refusal.TheVariants.{Count, Line, Inst, Stray, Space}
use Rattle.refusals.specs.Verdicts.{number_of, in_order}
use Rattle.refusals.specs.Orders.{Ordered}
use Rattle.words.specs.Widths.{local_count}
use Rattle.carry_checks.specs.Checks.{carry_verdict}
use Rattle.carry_checks.proofs.OrderLaws.{carry_ordered}
use Rattle.local_kinds.specs.Entry.{reach_checks}

module _ (points v : ℕ) (blocks insts operands crossings locals addresses ends answer work : List ℕ) where
  pub reach_verdict : carry_verdict points v blocks insts operands crossings locals addresses ends (length answer) (local_count locals) (length work) ≡ in_order (reach_checks points v blocks insts operands crossings locals addresses ends answer work)
  unfolding carry_verdict
  reach_verdict = refl

  pub reach_ordered : Ordered number_of (Count ∷ Line ∷ Inst ∷ Inst ∷ Stray ∷ Stray ∷ Space ∷ []) (reach_checks points v blocks insts operands crossings locals addresses ends answer work)
  reach_ordered = carry_ordered v blocks insts operands crossings locals addresses ends points (length answer) (local_count locals) (length work)
