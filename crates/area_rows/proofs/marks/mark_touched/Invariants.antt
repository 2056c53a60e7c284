-- `area_rows::marks::mark_touched` meets its contract: the touches before i are marked.
use Rattle.area_rows.specs.Inner.{spans}
use Rattle.spots.specs.Spots.{line_of}
use mathlib.Core.List.{[]}
use Rattle.area_rows.proofs.MarkLaws.{Sweeping}
use Prim.Native.Nat.{◌-◌}
use mathlib.Core.Path.{◌≡◌}
use Rattle.area_rows.proofs.marks.mark_touched.Given as goal

abbrev pub invariant-loop-i : goal.invariant-loop-i
invariant-loop-i l = Sweeping (λ t k. spans (line_of l.blocks []) t k) l.fn.s l.c l.initial.work l.work l.i × (l.at ≡ l.fn.s.at)
