use Rattle.drawing.proofs.AxisLaws.{placed}
use Rattle.drawing.proofs.place.Goals as goal

-- src/lib.rt:113:1
pub returns : goal.returns
returns c = placed _ _ _ _ c.passed-n.ensures
