use Rattle.tarjan.specs.Inner.Space.{Numbered}
use Prim.Native.Nat.{◌≤◌}
use Rattle.tarjan.proofs.number.Given as goal

abbrev pub invariant-loop-v : goal.invariant-loop-v
invariant-loop-v l = (l.v ≤ l.n) × Numbered l.n l.base l.initial.w l.v l.w
