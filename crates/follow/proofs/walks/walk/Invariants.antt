-- `follow::walks::walk` meets its contract: the first h of the queue were looked at.
use Prim.Native.Nat.{◌-◌}
use Rattle.follow.specs.Inner.{Walkable, Walking}
use Rattle.follow.proofs.walks.walk.Given as goal

abbrev pub invariant-loop-h : goal.invariant-loop-h
invariant-loop-h l = Walkable l.lay l.z l.initial.work × Walking l.lay l.z l.initial.work l.work (record { lost = l.initial.s.bad; count = l.initial.s.count }) l.h l.s

abbrev pub decreases-loop-h : goal.decreases-loop-h
decreases-loop-h l = l.z.insts - l.h
