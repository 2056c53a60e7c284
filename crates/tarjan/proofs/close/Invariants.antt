-- `tarjan::close` meets its contract: the places from p up to i are closed.
use Prim.Native.Nat.{◌≤◌}
use Rattle.tarjan.specs.Inner.Space.{Closed}
use Rattle.tarjan.proofs.close.Given as goal

abbrev pub invariant-loop-i : goal.invariant-loop-i
invariant-loop-i l = (l.p ≤ l.i) × (l.i ≤ l.s) × Closed l.n l.base l.initial.w l.p l.x l.e l.i l.w
