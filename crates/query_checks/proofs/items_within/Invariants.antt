-- `items_within` meets its contract: no item before i is bad.
use Rattle.refusals.specs.declared.Refusal.TheVariants.{Want}
use Rattle.refusals.specs.Verdicts.{scan, Fine}
use Rattle.query_checks.specs.Checks.{bad_item}
use mathlib.Core.Path.{◌≡◌}
use Rattle.query_checks.proofs.items_within.Given as goal

abbrev pub invariant-loop-i : goal.invariant-loop-i
invariant-loop-i l = (scan Want (bad_item l.cells l.items l.ranges) l.i ≡ Fine)
