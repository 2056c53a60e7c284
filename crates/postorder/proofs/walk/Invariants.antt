-- `postorder::walk` meets its contract: turn by turn, until the stack is empty.
use Prim.Native.Nat.{◌+◌}
use Rattle.postorder.specs.Inner.{Ready, to_come}
use Rattle.postorder.proofs.Roots.{Going}
use Rattle.postorder.proofs.walk.Given as goal

abbrev pub invariant-loop-z : goal.invariant-loop-z
invariant-loop-z l = Ready l.n l.at l.base l.w l.z.depth l.z.left × Going l.n l.at l.base l.initial.w l.initial.z.depth l.initial.z.left l.w l.z.depth l.z.left

abbrev pub decreases-loop-z : goal.decreases-loop-z
decreases-loop-z l = to_come l.n l.at l.base l.w + l.z.depth
