-- `touches::of_entries` meets its contract: the entries behind `next` stand there.
use Rattle.touches.specs.Inner.{entry_at}
use Rattle.touches.proofs.EntryLaws.{Walking}
use Rattle.touches.proofs.of_entries.Given as goal

abbrev pub invariant-loop-next : goal.invariant-loop-next
invariant-loop-next l = Walking l.insts l.addresses (entry_at l.insts l.addresses) l.local l.heads l.nexts l.to l.initial.work l.work l.m l.next

abbrev pub decreases-loop-next : goal.decreases-loop-next
decreases-loop-next l = l.next
