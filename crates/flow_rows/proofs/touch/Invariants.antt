-- `flow::rows::touch` meets its contract: the touches of the places before p are in the row.
use Rattle.flow_rows.proofs.Visits.{Touching}
use Rattle.flow_rows.proofs.touch.Given as goal

abbrev pub invariant-loop-p : goal.invariant-loop-p
invariant-loop-p l = Touching l.f l.i l.j l.x l.initial.work l.work l.p
