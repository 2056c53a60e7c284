use Rattle.drawing.proofs.RowLaws.{Counted}
use Prim.Native.Nat.{◌+◌, ◌-◌}
use Rattle.drawing.proofs.digits.Given as goal

abbrev pub invariant-loop-top : goal.invariant-loop-top
invariant-loop-top l = Counted l.n l.top l.k

abbrev pub decreases-loop-top : goal.decreases-loop-top
decreases-loop-top l = (l.n + 1) - l.top
