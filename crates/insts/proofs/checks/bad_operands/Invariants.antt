-- `insts::checks::bad_operands` meets its contract: no operand before p is refused.
use Prim.Native.Nat.{◌≤◌}
use mathlib.Core.Path.{◌≡◌}
use mathlib.Core.Bool.{false}
use Rattle.carrying.specs.Lists.{any}
use Rattle.carrying.specs.Checks.{bad_operand}
use Rattle.insts.specs.Inner.{operands_from}
use Rattle.insts.proofs.checks.bad_operands.Given as goal

abbrev pub invariant-loop-p : goal.invariant-loop-p
invariant-loop-p l = (l.p ≤ l.n) × (any (bad_operand l.v) (operands_from l.operands l.from l.p) ≡ false)
