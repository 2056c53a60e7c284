-- `area_rows::marks::mark_leaving` meets its contract: the touches before i are marked.
use Rattle.area_rows.specs.Inner.{leaves_by}
use Rattle.spots.specs.Spots.{line_of}
use Rattle.spots.specs.Inner.{ends_at}
use mathlib.Core.List.{[]}
use Rattle.area_rows.proofs.MarkLaws.{Sweeping}
use mathlib.Core.Path.{◌≡◌}
use Rattle.leaving_marks.proofs.mark_leaving.Given as goal

abbrev pub invariant-loop-i : goal.invariant-loop-i
invariant-loop-i l = Sweeping (λ t k. leaves_by (line_of l.blocks []) (ends_at l.s l.initial.work) k t) l.s l.c l.initial.work l.work l.i × (l.at ≡ l.s.at)
