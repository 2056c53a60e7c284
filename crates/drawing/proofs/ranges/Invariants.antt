use Rattle.drawing.specs.Inner.{ranges_in}
use Prim.Native.Nat.{min}
use mathlib.Core.Path.{◌≡◌}
use Rattle.drawing.proofs.ranges.Given as goal

abbrev pub invariant-loop-i : goal.invariant-loop-i
invariant-loop-i l = l.k ≡ min l.room (ranges_in l.items l.i)
