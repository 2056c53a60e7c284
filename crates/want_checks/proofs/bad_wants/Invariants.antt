-- `bad_wants` meets its contract: no want before i is bad.
use Rattle.refusals.specs.declared.Refusal.TheVariants.{Want}
use Rattle.refusals.specs.Verdicts.{scan, Fine}
use Rattle.ranges.specs.Forms.{areas_of}
use Rattle.want_checks.specs.Checks.{bad_want}
use mathlib.Core.Path.{◌≡◌}
use Rattle.want_checks.proofs.bad_wants.Given as goal

abbrev pub invariant-loop-i : goal.invariant-loop-i
invariant-loop-i l = (scan Want (bad_want (areas_of l.areas) l.wants) l.i ≡ Fine)
