-- `measure_locals` meets its contract: the area of one local more, each turn.
use Rattle.job_measure.proofs.AllLaws.{Going}
use Rattle.job_measure.proofs.measure_locals.Given as goal

abbrev pub invariant-loop-l : goal.invariant-loop-l
invariant-loop-l l = Going l.blocks l.insts l.addresses l.ends l.pieces l.lay l.p l.z l.g l.mark l.o l.initial.work l.work l.l l.total
