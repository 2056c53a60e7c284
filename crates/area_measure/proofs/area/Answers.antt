-- `area` meets its contract: the area of a plain or of an ending local.
use native.Mathlib.Omega.{arith}
use Rattle.area_measure.proofs.MeasureLaws.{area_plain, area_ending}
use Rattle.area_measure.proofs.area.Goals as goal

pub returns-then-kind-eq1 : goal.returns-then-kind-eq1
returns-then-kind-eq1 c =
    area_plain c.args.blocks.now c.args.kind c.args.t c.args.s (omega arith) c.plain.ensures

pub returns : goal.returns
returns c =
    area_ending c.args.blocks.now c.args.kind c.args.t c.args.s (omega (arith, c.requires.1.followed)) c.ending.ensures
