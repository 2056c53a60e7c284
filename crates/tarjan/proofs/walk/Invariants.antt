use Rattle.tarjan.specs.Inner.Space.{Ready, left_of}
use Rattle.tarjan.proofs.Roots.{Going}
use Prim.Native.Nat.{◌+◌}
use Rattle.tarjan.proofs.walk.Given as goal

abbrev pub invariant-loop-z : goal.invariant-loop-z
invariant-loop-z l = Ready l.n l.at l.to l.base l.w l.z.s l.z.d l.z.c l.z.e × Going l.n l.at l.to l.base l.initial.w l.initial.z.s l.initial.z.d l.initial.z.c l.initial.z.e l.w l.z.s l.z.d l.z.c l.z.e

abbrev pub decreases-loop-z : goal.decreases-loop-z
decreases-loop-z l = left_of l.n l.at l.base l.w + left_of l.n l.at l.base l.w + l.z.d
