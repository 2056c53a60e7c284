-- `follow::walks::grow` meets its contract: the edges of the register before x were taken.
use mathlib.Core.Path.{refl}
use Rattle.follow.proofs.WalkLaws.{grow_start, grow_turn, grow_more, grow_done, grow_stop}
use Rattle.follow.proofs.walks.grow.Goals as goal

pub loop-x-init : goal.loop-x-init
loop-x-init c =
    grow_start (c.args).lay (c.args).z (c.args).work.now (c.args).i _ _ _ (c.requires).0 (c.requires).1 (c.requires).2 (c.requires).3 refl refl

pub returns-then-y-q : goal.returns-then-y-q
returns-then-y-q c = grow_stop c.loop-x.invariant _ c.loop-x-test.true refl c.if-y-q.true

pub join-k-requires : goal.join-k-requires
join-k-requires c =
    let u = grow_turn c.loop-x.invariant _ _ c.loop-x-test.true refl c.if-y-q.false refl in (c.loop-x.invariant.grew.held, u.low, u.has_def)

pub loop-x-preserved : goal.loop-x-preserved
loop-x-preserved c =
    grow_more c.loop-x.invariant c.loop-x-test.true (grow_turn c.loop-x.invariant _ _ c.loop-x-test.true refl c.if-y-q.false refl) c.join-k.ensures

pub returns : goal.returns
returns c = grow_done c.loop-x.invariant c.loop-x-test.false
