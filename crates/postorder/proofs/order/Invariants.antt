-- `postorder::order` meets its contract: a walk from each place that was not seen.
use Prim.Native.Nat.{◌+◌}
use mathlib.Core.Path.{◌≡◌}
use Rattle.postorder.proofs.Roots.{Roots}
use Rattle.postorder.proofs.order.Given as goal

abbrev pub invariant-loop-root : goal.invariant-loop-root
invariant-loop-root l = (l.next ≡ l.base + l.n + l.n + l.n) × Roots l.n l.at l.base l.initial.work l.work l.left l.root
