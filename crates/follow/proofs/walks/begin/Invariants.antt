-- `follow::walks::begin` meets its contract: the entries from c on were taken.
use Rattle.follow.proofs.BeginLaws.{Beginning}
use Rattle.follow.proofs.walks.begin.Given as goal

abbrev pub invariant-loop-c : goal.invariant-loop-c
invariant-loop-c l = Beginning l.lay l.z l.insts l.addresses l.local l.initial.work l.work l.b l.c

abbrev pub decreases-loop-c : goal.decreases-loop-c
decreases-loop-c l = l.c
