-- `touches::of_ends` meets its contract: the placed ends behind `next` stand there.
use Rattle.touches.specs.Inner.{end_at}
use Rattle.touches.proofs.EntryLaws.{Walking}
use Rattle.touches.proofs.of_ends.Given as goal

abbrev pub invariant-loop-next : goal.invariant-loop-next
invariant-loop-next l = Walking l.insts l.ends (end_at l.insts l.ends) l.local l.heads l.nexts l.to l.initial.work l.work l.m l.next

abbrev pub decreases-loop-next : goal.decreases-loop-next
decreases-loop-next l = l.next
