-- `each` meets its contract: the tables hold the plan of the places passed, and the rows its sample points.
use Rattle.fit_cells.proofs.EachLaws.{Going}
use Rattle.fit_cells.proofs.each.Given as goal

abbrev pub invariant-loop-k : goal.invariant-loop-k
invariant-loop-k l = Going l.initial.w l.w l.t l.width l.step l.budget l.k l.s
