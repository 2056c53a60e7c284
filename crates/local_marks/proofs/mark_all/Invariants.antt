-- `local_marks::mark_all` meets its contract: the first l locals are marked.
use Rattle.local_marks.proofs.SweepLaws.{Sweep}
use Rattle.local_marks.proofs.mark_all.Given as goal

abbrev pub invariant-loop-l : goal.invariant-loop-l
invariant-loop-l l = Sweep l.p l.g l.blocks l.kinds l.touches l.ends l.initial.work l.work l.l
