-- `operands::addressed` meets its contract: what is left of the operands decides.
use Prim.Native.Nat.{◌+◌, ◌≤◌}
use mathlib.Core.Path.{◌≡◌}
use Rattle.operands.proofs.OperandLaws.{From}
use Rattle.insts.specs.Inner.{operand_at}
use Rattle.operands.specs.Inner.{addressing}
use Rattle.operands.proofs.addressed.Given as goal

abbrev pub invariant-loop-p : goal.invariant-loop-p
invariant-loop-p l = (l.p ≤ l.n) × (From (addressing l.base l.index) l.r l.n (λ q. operand_at l.operands (l.from + q)) 0 ≡ From (addressing l.base l.index) l.r l.n (λ q. operand_at l.operands (l.from + q)) l.p)
