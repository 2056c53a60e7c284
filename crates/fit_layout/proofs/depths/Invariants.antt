-- `depths` meets its contract: the first cell that lies too deep.
use Rattle.fit_layout.proofs.WordLaws.{Deep}
use Rattle.fit_layout.proofs.depths.Given as goal

abbrev pub invariant-loop-c : goal.invariant-loop-c
invariant-loop-c l = Deep l.w l.from l.cells l.c l.depth
