-- `aligns` meets its contract: the first cell whose alignment is no power of two.
use Rattle.fit_layout.proofs.WordLaws.{Aligned}
use Rattle.fit_layout.proofs.aligns.Given as goal

abbrev pub invariant-loop-c : goal.invariant-loop-c
invariant-loop-c l = Aligned l.w l.from l.cells l.c
