use Rattle.tarjan.specs.Inner.Space.{Begun}
use Prim.Native.Nat.{◌≤◌}
use Rattle.tarjan.proofs.begin.Given as goal

abbrev pub invariant-loop-v : goal.invariant-loop-v
invariant-loop-v l = (l.v ≤ l.n) × Begun l.n l.at l.base l.initial.w l.v l.w
