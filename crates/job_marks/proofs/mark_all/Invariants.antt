-- `job_marks::mark_all` meets its contract: the first l locals are marked.
use Rattle.job_marks.proofs.SweepLaws.{Sweep}
use Rattle.job_marks.proofs.mark_all.Given as goal

abbrev pub invariant-loop-l : goal.invariant-loop-l
invariant-loop-l l = Sweep l.blocks l.insts l.addresses l.ends l.pieces l.lay l.p l.z l.g l.initial.work l.work l.l
