-- `area_rows::marks::mark_leave` meets its contract.
use Rattle.spots.specs.Spots.{line_of}
use Rattle.spots.specs.Inner.{ends_at}
use Rattle.ranges.specs.Points.{range}
use mathlib.Core.List.{[]}
use Rattle.leaving_marks.proofs.LeaveLaws.{leave_touch}
use Rattle.leaving_marks.proofs.mark_leave.Goals as goal

pub returns : goal.returns
returns c =
    leave_touch (line_of c.args.blocks.now []) (ends_at c.args.s c.args.work.now) (range c.args.start c.args.end) _ _ _ _
    (c.holding-first.ensures.is [])
    (c.holding-last.ensures.is [])
    (c.covers_bottom-one.ensures [] c.args.start)
    (c.covers_bottom-two.ensures [] c.args.start)
    c.mark_if.ensures c.mark_if-2.ensures
    c.mark_places.ensures
