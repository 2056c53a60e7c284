-- `write` meets its contract: an offset a cell, and the last depth.
use Rattle.fit_layout.proofs.WordLaws.{Writing}
use Rattle.fit_layout.proofs.write.Given as goal

abbrev pub invariant-loop-c : goal.invariant-loop-c
invariant-loop-c l = Writing l.w l.from l.cells l.initial.offsets l.offsets l.c l.depth
