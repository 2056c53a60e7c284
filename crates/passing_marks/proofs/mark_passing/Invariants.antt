-- `area_rows::marks::mark_passing` meets its contract: the ends before i are marked.
use Rattle.passing_marks.proofs.PassLaws.{Ending}
use mathlib.Core.Path.{◌≡◌}
use Rattle.passing_marks.proofs.mark_passing.Given as goal

abbrev pub invariant-loop-i : goal.invariant-loop-i
invariant-loop-i l = Ending l.blocks l.fn.s l.c l.initial.work l.work l.i × (l.ends ≡ l.fn.s.ends)
