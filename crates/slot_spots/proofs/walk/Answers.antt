-- `slot_spots::walk` meets its contract: what the moves behind the next one cover stands.
use native.Mathlib.Omega.{arith}
use Prim.Native.Nat.{◌-◌}
use mathlib.Core.Path.{refl}
use mathlib.Core.List.{[]}
use lib.ListN.{length-set}
use Rattle.ranges.specs.Inner.{pack}
use Rattle.graph.specs.Line.{blocks_of}
use Rattle.carrying.specs.Insts.{insts_of}
use Rattle.move_points.specs.Inner.{move_row}
use Rattle.chains.proofs.WalkLaws.{walk_start, walk_row, walk_back, walk_less, walk_more, walk_done}
use Rattle.slot_spots.specs.Inner.{cover_of}
use Rattle.slot_spots.proofs.MoveLaws.{table_kept}
use Rattle.slot_spots.proofs.walk.Goals as goal

pub overflow_add-next : goal.overflow_add-next
overflow_add-next c = omega arith

pub offset_bounds-work-k : goal.offset_bounds-work-k
offset_bounds-work-k c = omega arith

pub bounds-work-k : goal.bounds-work-k
bounds-work-k c = omega arith

pub loop-next-init : goal.loop-next-init
loop-next-init c =
    walk_start (λ i. pack (cover_of c.args.points (blocks_of c.args.blocks.now) (insts_of c.args.insts.now []) (move_row c.args.moves.now i))) c.requires.walkable _ refl

pub overflow_sub-i : goal.overflow_sub-i
overflow_sub-i c = omega arith

pub cover-x-requires : goal.cover-x-requires
cover-x-requires c =
    record { sound = (c.requires.sound.0, table_kept c.args.blocks.now (omega arith) c.loop-next.invariant.kept c.requires.sound.1, omega arith); i_bound = (walk_row c.loop-next.invariant (c.loop-next.next - 1) (omega arith), c.requires.moves_value) }

pub overflow_sub-to : goal.overflow_sub-to
overflow_sub-to c = omega arith

pub offset_bounds-work-to : goal.offset_bounds-work-to
offset_bounds-work-to c = omega arith

pub bounds-work-to : goal.bounds-work-to
bounds-work-to c = omega arith

pub overflow_add-next-in-loop-next : goal.overflow_add-next-in-loop-next
overflow_add-next-in-loop-next c = omega arith

pub offset_bounds-work-k-in-loop-next : goal.offset_bounds-work-k-in-loop-next
offset_bounds-work-k-in-loop-next c = omega arith

pub bounds-work-k-in-loop-next : goal.bounds-work-k-in-loop-next
bounds-work-k-in-loop-next c = simp length-set (omega arith)

pub loop-next-smaller : goal.loop-next-smaller
loop-next-smaller c =
    walk_less c.loop-next.invariant (c.loop-next.next - 1) _ (omega arith)
    (walk_back c.requires.walkable c.loop-next.invariant _ (c.loop-next.next - 1) (c.loop-next.to - 1) (omega arith) (omega arith))

pub loop-next-preserved : goal.loop-next-preserved
loop-next-preserved c =
    walk_more c.loop-next.invariant _ (c.loop-next.next - 1) (c.loop-next.to - 1) _ (omega arith) (omega arith) c.cover-x.ensures
    (walk_back c.requires.walkable c.loop-next.invariant _ (c.loop-next.next - 1) (c.loop-next.to - 1) (omega arith) (omega arith))

pub overflow_sub-result : goal.overflow_sub-result
overflow_sub-result c = omega arith

pub shape_of-work : goal.shape_of-work
shape_of-work c = c.loop-next.invariant.kept.len

pub returns : goal.returns
returns c = walk_done c.loop-next.invariant (omega arith)
