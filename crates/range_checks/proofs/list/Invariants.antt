-- `list` meets its contract: no range before i is wrong.
use Prim.Native.Nat.{◌≤◌}
use mathlib.Core.Path.{◌≡◌}
use lib.ListN.{length}
use Rattle.refusals.specs.declared.Refusal.TheVariants.{Want}
use Rattle.refusals.specs.Verdicts.{scan, Fine}
use Rattle.ranges.specs.Forms.{columns}
use Rattle.ranges.specs.Lent.{wrong_at}
use Rattle.range_checks.proofs.list.Given as goal

abbrev pub invariant-loop-i : goal.invariant-loop-i
invariant-loop-i l = (l.i ≤ length l.start) × (scan Want (wrong_at l.ordered (columns l.start l.end)) l.i ≡ Fine)
