-- `fold` meets its contract: each turn unites two lists, and the link falls.
use Rattle.fit_tables.specs.Inner.{next_at, Folded}
use mathlib.Core.Path.{◌≡◌}
use Rattle.fit_cells.proofs.folding.fold.Given as goal

abbrev pub invariant-loop-p : goal.invariant-loop-p
invariant-loop-p l = (l.p ≡ next_at l.w l.t l.k) × Folded l.initial.w l.w l.t l.k l.top l.e

abbrev pub decreases-loop-p : goal.decreases-loop-p
decreases-loop-p l = l.p
