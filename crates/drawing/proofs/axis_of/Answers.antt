use Rattle.drawing.proofs.AxisLaws.{axis_short, axis_whole}
use Rattle.drawing.proofs.axis_of.Goals as goal

-- src/lib.rt:72:9
pub returns-then-last-first : goal.returns-then-last-first
returns-then-last-first c =
    axis_short c.args.blocks.now c.args.areas.now c.widened-line.ensures.0 c.widened-line.ensures.1 c.widened-all.ensures.0 c.widened-all.ensures.1
    c.if-last-first.true

-- src/lib.rt:63:1
pub returns : goal.returns
returns c =
    axis_whole c.args.blocks.now c.args.areas.now c.widened-line.ensures.0 c.widened-line.ensures.1 c.widened-all.ensures.0 c.widened-all.ensures.1
