-- `area_rows::marks::mark_leaving` meets its contract: the touches before i are marked.
use Rattle.ranges.specs.Points.{range}
use Rattle.area_rows.specs.Inner.{leaves_by}
use Rattle.spots.specs.Spots.{line_of}
use Rattle.spots.specs.Inner.{ends_at}
use mathlib.Core.List.{[]}
use Rattle.area_rows.proofs.MarkLaws.{sweep_start, sweep_more, sweep_done}
use Rattle.leaving_marks.proofs.LeaveLaws.{leave_as, leaves_done}
use native.Mathlib.Omega.{arith}
use Rattle.leaving_marks.proofs.mark_leaving.Goals as goal

pub loop-i-init : goal.loop-i-init
loop-i-init c =
    (sweep_start (λ t k. leaves_by (line_of c.args.blocks.now []) (ends_at c.args.s c.args.work.now) k t) c.requires.0, omega arith)

pub loop-i-preserved : goal.loop-i-preserved
loop-i-preserved c = (
  sweep_more c.loop-i.invariant.0 _ _ (omega arith) c.start_of.ensures c.end_of.ensures
      (leave_as c.requires.0 c.requires.1 c.loop-i.invariant.0.put.kept (range c.start_of.result c.end_of.result) c.mark_leave.ensures),
  omega arith,
)

pub returns : goal.returns
returns c =
    leaves_done c.args.blocks.now c.args.s (sweep_done c.loop-i.invariant.0 (omega arith))
