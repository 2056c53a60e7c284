-- `follow::walks::unsee` meets its contract: the first k of the queue are registers.
use mathlib.Core.Path.{refl}
use Rattle.follow.proofs.WalkLaws.{unsee_start, unsee_more, unsee_done}
use Rattle.follow.proofs.walks.unsee.Goals as goal

pub loop-k-init : goal.loop-k-init
loop-k-init c = unsee_start c.requires

pub loop-k-preserved : goal.loop-k-preserved
loop-k-preserved c = rw c.forget.ensures (unsee_more c.loop-k.invariant _ _ _ c.loop-k-test.true refl refl refl)

pub returns : goal.returns
returns c = unsee_done c.loop-k.invariant c.loop-k-test.false
