-- `area_rows::marks::mark_places` meets its contract: the places before k are marked.
use Rattle.area_rows.proofs.MarkLaws.{Placing}
use Prim.Native.Nat.{◌-◌}
use Rattle.area_rows.proofs.marks.mark_places.Given as goal

abbrev pub invariant-loop-k : goal.invariant-loop-k
invariant-loop-k l = Placing l.c l.from l.to l.initial.work l.work l.k
