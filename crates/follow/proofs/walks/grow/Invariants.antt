-- `follow::walks::grow` meets its contract: the edges of the register before x were taken.
use Prim.Native.Nat.{◌+◌, ◌-◌}
use lib.ListN.{get_or}
use Rattle.follow.proofs.WalkLaws.{Growing}
use Rattle.follow.proofs.walks.grow.Given as goal

abbrev pub invariant-loop-x : goal.invariant-loop-x
invariant-loop-x l = Growing l.lay l.z l.initial.work (get_or l.initial.work (l.lay.defs + l.i) 0 - 1) (get_or l.initial.work (l.lay.firsts + l.i) 0) l.n l.work l.k l.x
