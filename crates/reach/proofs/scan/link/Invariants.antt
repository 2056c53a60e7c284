-- `reach::scan::link` meets its contract: of the first p operands the keys were appended.
use Prim.Native.Nat.{◌+◌}
use Rattle.insts.specs.Inner.{operand_at}
use Rattle.reach.proofs.UseLaws.{handing}
use Rattle.reach.proofs.MarkLaws.{Linking}
use Rattle.reach.proofs.scan.link.Given as goal

abbrev pub invariant-loop-p : goal.invariant-loop-p
invariant-loop-p l = Linking l.initial.work l.work l.at l.inst l.count (handing l.v l.base l.index l.n (λ k. operand_at l.operands (l.from + k))) (λ k. (operand_at l.operands (l.from + k)).register) l.n l.k l.p
