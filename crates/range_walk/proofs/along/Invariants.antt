-- `along` meets its contract: no range before i is wrong.
use mathlib.Core.Path.{◌≡◌}
use mathlib.Core.Bool.{true}
use lib.ListN.{take, drop}
use Rattle.refusals.specs.declared.Refusal.TheVariants.{Want}
use Rattle.refusals.specs.Verdicts.{scan, Fine}
use Rattle.ranges.specs.Lent.{wrong_at}
use Rattle.ranges.specs.Forms.{areas_of}
use Rattle.range_walk.proofs.along.Given as goal

abbrev pub invariant-loop-i : goal.invariant-loop-i
invariant-loop-i l = scan Want (wrong_at true (take l.count (drop l.first (areas_of l.areas)))) l.i ≡ Fine
