-- `preparing::firsts` meets its contract: the first i instructions have their first edge.
use Rattle.preparing.proofs.StepLaws.{Firsting}
use Rattle.preparing.proofs.firsts.Given as goal

abbrev pub invariant-loop-i : goal.invariant-loop-i
invariant-loop-i l = Firsting l.lay.defs l.lay.firsts l.lay.edges l.m l.n l.initial.work l.work l.i
