-- `measure_all` meets its contract: the areas of one local more, each turn.
use Rattle.area_measure.proofs.LocalLaws.{Going}
use Rattle.area_measure.proofs.locals.measure_all.Given as goal

abbrev pub invariant-loop-l : goal.invariant-loop-l
invariant-loop-l l = Going l.blocks l.kinds l.touches l.ends l.p l.g l.mark l.o l.initial.work l.work l.l l.total
