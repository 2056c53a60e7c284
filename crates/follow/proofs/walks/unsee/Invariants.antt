-- `follow::walks::unsee` meets its contract: the first k of the queue are registers.
use Rattle.follow.proofs.WalkLaws.{Unseeing}
use Rattle.follow.proofs.walks.unsee.Given as goal

abbrev pub invariant-loop-k : goal.invariant-loop-k
invariant-loop-k l = Unseeing l.lay l.z.v l.z.insts l.initial.work l.work l.n l.k
