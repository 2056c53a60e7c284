use Rattle.drawing.proofs.AxisLaws.{ranges_none, ranges_more}
use native.Mathlib.Omega.{arith}
use Rattle.drawing.proofs.ranges.Goals as goal

pub loop-i-init : goal.loop-i-init
loop-i-init c = let e = ranges_none c.args.items.now in omega arith

pub loop-i-preserved : goal.loop-i-preserved
loop-i-preserved c =
    let e = ranges_more c.args.items.now c.loop-i.i in omega arith
