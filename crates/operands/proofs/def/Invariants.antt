-- `operands::def` meets its contract: no register was found, or one.
use Prim.Native.Nat.{◌+◌, ◌≤◌}
use mathlib.Core.Path.{◌≡◌}
use Rattle.operands.proofs.OperandLaws.{defs}
use mathlib.Core.List.{[], ◌∷◌}
use Rattle.insts.specs.Inner.{operand_at}
use Rattle.operands.proofs.def.Given as goal

abbrev pub invariant-loop-p : goal.invariant-loop-p
invariant-loop-p l = (l.p ≤ l.n) × (l.count ≤ 1) × (l.count ≡ 0 → defs (λ q. operand_at l.operands (l.from + q)) l.p ≡ []) × (l.count ≡ 1 → defs (λ q. operand_at l.operands (l.from + q)) l.p ≡ l.register ∷ [])
