-- `items_named` meets its contract: no item before i names no cell.
use Rattle.refusals.specs.declared.Refusal.TheVariants.{Want}
use Rattle.refusals.specs.Verdicts.{scan, Fine}
use Rattle.query_checks.specs.Checks.{no_cell}
use mathlib.Core.Path.{◌≡◌}
use Rattle.query_checks.proofs.items_named.Given as goal

abbrev pub invariant-loop-i : goal.invariant-loop-i
invariant-loop-i l = (scan Want (no_cell l.cells l.items) l.i ≡ Fine)
