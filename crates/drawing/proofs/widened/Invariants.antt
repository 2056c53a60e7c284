use Rattle.drawing.specs.Axis.{least_of, greatest_of}
use mathlib.Core.Path.{◌≡◌}
use Rattle.drawing.proofs.widened.Given as goal

abbrev pub invariant-loop-i : goal.invariant-loop-i
invariant-loop-i l = (l.low ≡ least_of l.w l.l l.s l.initial.low l.i) × (l.high ≡ greatest_of l.w l.l l.e l.initial.high l.i)
