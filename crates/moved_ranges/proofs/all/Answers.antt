-- `moved_ranges::all` meets its contract: what the moves passed cover.
use native.Mathlib.Omega.{arith}
use mathlib.Core.Path.{◌≡◌}
use Rattle.move_covers.proofs.MovedLaws.{wrote_none, wrote_then, gather_next, gather_none}
use Rattle.move_points.proofs.MoveLaws.{covers_two}
use mathlib.Core.List.{[]}
use Rattle.words.specs.Widths.{move_count}
use Rattle.graph.specs.Line.{blocks_of}
use Rattle.carrying.specs.Insts.{insts_of}
use Rattle.areas.specs.Slots.{covering}
use Rattle.move_points.specs.Inner.{move_row}
use Rattle.moved_ranges.proofs.all.Goals as goal

pub loop-i-init : goal.loop-i-init
loop-i-init c = (
  omega arith,
  omega arith,
  omega arith,
  rw
      (gather_none (covering c.args.points (blocks_of (c.args.blocks.now)) (insts_of (c.args.insts.now) []) c.args.slot) (move_row (c.args.moves.now)))
      (wrote_none _ _),
)

pub loop-i-preserved : goal.loop-i-preserved
loop-i-preserved c = (
  omega arith,
  omega arith,
  (let q = covers_two c.args.points (blocks_of (c.args.blocks.now)) (insts_of (c.args.insts.now) []) c.args.slot
      (move_row (c.args.moves.now) c.loop-i.i) in
      let e = c.covers-k.ensures.count in
      omega arith),
  rw (gather_next (covering c.args.points (blocks_of (c.args.blocks.now)) (insts_of (c.args.insts.now) []) c.args.slot)
      (move_row (c.args.moves.now)) c.loop-i.i) (wrote_then c.loop-i.invariant.3 c.covers-k.ensures),
)

pub returns : goal.returns
returns c = let q : c.loop-i.i ≡ move_count (c.args.moves.now) = omega arith in rw q at c.loop-i.invariant.3
