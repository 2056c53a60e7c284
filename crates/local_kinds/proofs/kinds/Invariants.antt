-- `local_kinds::kinds` meets its contract: the kinds of the first l locals.
use Rattle.local_kinds.proofs.EntryLaws.{Listing}
use Rattle.local_kinds.proofs.kinds.Given as goal

abbrev pub invariant-loop-l : goal.invariant-loop-l
invariant-loop-l l = Listing l.insts l.addresses l.lay l.z l.initial.answer l.answer l.initial.work l.work l.l
