-- `flow::rows::run_end` meets its contract: the places from i up to j are of component c.
use Rattle.flow_rows.proofs.Runs.{Running}
use Rattle.flow_rows.proofs.run_end.Given as goal

abbrev pub invariant-loop-j : goal.invariant-loop-j
invariant-loop-j l = Running l.work l.f.n l.f.base l.ord l.i l.c l.j
