-- `flow::rows::pull` meets its contract: the places before p are gathered.
use Rattle.flow_rows.proofs.Visits.{Pulling}
use Rattle.flow_rows.proofs.pull.Given as goal

abbrev pub invariant-loop-p : goal.invariant-loop-p
invariant-loop-p l = Pulling l.f l.i l.j l.c l.x l.initial.work l.work l.p l.looped
