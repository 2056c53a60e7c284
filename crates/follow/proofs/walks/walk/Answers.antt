-- `follow::walks::walk` meets its contract: the first h of the queue were looked at.
use mathlib.Core.Path.{sym, ◌∙◌}
use Rattle.follow.proofs.WalkLaws.{walk_start, walk_tables, walk_more, walk_done, walk_stop}
use Rattle.follow.proofs.PlaceLaws.{less_in}
use Rattle.follow.proofs.walks.walk.Goals as goal

pub loop-h-init : goal.loop-h-init
loop-h-init c = (c.requires.0, walk_start c.args.lay c.args.z c.args.work.now c.args.b c.requires.1)

pub returns-then-stops : goal.returns-then-stops
returns-then-stops c =
    walk_stop c.loop-h.invariant.0 c.loop-h.invariant.1 c.args.whole (sym c.stops.ensures ∙ c.if-stops.true)

pub step-s-requires : goal.step-s-requires
step-s-requires c =
    (walk_tables c.loop-h.invariant.0 c.loop-h.invariant.1, c.loop-h.invariant.1.grew.held, c.loop-h-test.true)

pub loop-h-smaller : goal.loop-h-smaller
loop-h-smaller c = less_in _ _ _ c.loop-h-test.true c.loop-h.invariant.1.grew.held.n_le

pub loop-h-preserved : goal.loop-h-preserved
loop-h-preserved c =
    (c.loop-h.invariant.0, walk_more c.loop-h.invariant.0 c.loop-h.invariant.1 c.loop-h-test.true c.step-s.ensures)

pub returns : goal.returns
returns c =
    walk_done c.loop-h.invariant.0 c.loop-h.invariant.1 c.args.whole c.loop-h-test.false
