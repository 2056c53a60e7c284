-- `area_rows::locals::scatter` meets its contract: the bits that are not left are set.
use Rattle.row_turns.proofs.TurnLaws.{Scattering}
use Rattle.row_turns.proofs.scatter.Given as goal

abbrev pub invariant-loop-left : goal.invariant-loop-left
invariant-loop-left l = Scattering l.c l.i l.word l.initial.work l.work l.left

abbrev pub decreases-loop-left : goal.decreases-loop-left
decreases-loop-left l = l.left
