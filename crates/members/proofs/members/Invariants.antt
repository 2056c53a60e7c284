-- `members` meets its contract: m of the first i items are in the cell.
use Rattle.members.specs.Inner.{members}
use mathlib.Core.Path.{◌≡◌}
use Rattle.members.proofs.members.Given as goal

abbrev pub invariant-loop-i : goal.invariant-loop-i
invariant-loop-i l = l.m ≡ members l.items l.cell l.i
