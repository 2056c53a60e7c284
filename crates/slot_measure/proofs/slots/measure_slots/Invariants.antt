-- `measure_slots` meets its contract: the area of one slot more, each turn.
use Rattle.slot_measure.proofs.AllLaws.{Going}
use Rattle.slot_measure.proofs.slots.measure_slots.Given as goal

abbrev pub invariant-loop-s : goal.invariant-loop-s
invariant-loop-s l = Going l.points l.blocks l.insts l.moves l.pieces l.p l.keys l.held l.o l.first l.total l.initial.work l.work l.s l.n
