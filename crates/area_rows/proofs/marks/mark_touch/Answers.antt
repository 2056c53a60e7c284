-- `area_rows::marks::mark_touch` meets its contract.
use Rattle.spots.specs.Spots.{line_of}
use Rattle.ranges.specs.Points.{range}
use mathlib.Core.List.{[]}
use Rattle.area_rows.proofs.MarkLaws.{touch_spans}
use native.Mathlib.Omega.{arith}
use Rattle.area_rows.proofs.marks.mark_touch.Goals as goal

pub returns : goal.returns
returns c =
    touch_spans (line_of c.args.blocks.now []) (range c.args.start c.args.end) _ _ (c.holding-first.ensures.is [])
    (c.holding-last.ensures.is []) c.mark_places.ensures
