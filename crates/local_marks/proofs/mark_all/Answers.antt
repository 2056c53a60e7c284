-- `local_marks::mark_all` meets its contract: the first l locals are marked.
use Rattle.local_marks.proofs.SweepLaws.{cleared_kept, sweep_start, sweep_more, sweep_done}
use native.Mathlib.Omega.{arith}
use Rattle.local_marks.proofs.mark_all.Goals as goal

pub loop-l-init : goal.loop-l-init
loop-l-init c =
    sweep_start c.args.p c.args.g c.args.blocks.now c.args.kinds.now c.args.touches.now c.args.ends.now c.requires.0
    c.clear_marks.ensures

pub loop-l-preserved : goal.loop-l-preserved
loop-l-preserved c =
    sweep_more c.loop-l.invariant (omega arith) c.mark_one.ensures.within c.mark_one.ensures.marked_one

pub returns : goal.returns
returns c = sweep_done c.loop-l.invariant (omega arith) (cleared_kept c.requires.0 c.clear_marks.ensures)
