-- `reach::scan::stick` meets its contract: of the first p operands the registers were marked.
use Prim.Native.Nat.{◌+◌}
use Rattle.insts.specs.Inner.{operand_at}
use Rattle.reach.proofs.UseLaws.{handing}
use Rattle.reach.proofs.MarkLaws.{Marking}
use Rattle.reach.proofs.scan.stick.Given as goal

abbrev pub invariant-loop-p : goal.invariant-loop-p
invariant-loop-p l = Marking l.initial.work l.work l.row l.v (handing l.v l.base l.index l.n (λ k. operand_at l.operands (l.from + k))) (λ k. (operand_at l.operands (l.from + k)).register) l.n l.p
