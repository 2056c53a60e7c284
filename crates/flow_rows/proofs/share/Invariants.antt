-- `flow::rows::share` meets its contract: the places before p have the row.
use Rattle.flow_rows.proofs.Shares.{Sharing}
use Rattle.flow_rows.proofs.share.Given as goal

abbrev pub invariant-loop-p : goal.invariant-loop-p
invariant-loop-p l = Sharing l.f l.x l.i l.j l.c l.initial.work l.work l.p
