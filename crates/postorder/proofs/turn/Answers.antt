-- `postorder::turn` meets its contract: each of its three ways out is a law of `Turns`.
use native.Mathlib.Omega.{arith}
use Prim.Native.Nat.{◌≤◌}
use mathlib.Core.Path.{refl}
use lib.ListN.{length-set}
use Rattle.postorder.specs.Inner.{ends}
use Rattle.postorder.proofs.Turns.{top_of, next_of, top, v_ok, first_ok, room_for, turn_seen, turn_new, turn_left}
use Rattle.postorder.proofs.Bounds.{Turning, AtEdge, turning, edge, deeper, few}
use Rattle.postorder.proofs.turn.Goals as goal

pub overflow_add-stack : goal.overflow_add-stack
overflow_add-stack c =
    let turns : Turning c.args.n c.args.at c.args.base c.args.w.now c.args.z.depth = turning c.requires.depth_nonzero c.requires.ready c.well_formed.0.1 in
    (turns).rank

pub overflow_add-stack-2 : goal.overflow_add-stack-2
overflow_add-stack-2 c =
    let turns : Turning c.args.n c.args.at c.args.base c.args.w.now c.args.z.depth = turning c.requires.depth_nonzero c.requires.ready c.well_formed.0.1 in
    (turns).stack

pub overflow_add-next : goal.overflow_add-next
overflow_add-next c =
    let turns : Turning c.args.n c.args.at c.args.base c.args.w.now c.args.z.depth = turning c.requires.depth_nonzero c.requires.ready c.well_formed.0.1 in
    (turns).next

pub overflow_add-u : goal.overflow_add-u
overflow_add-u c =
    let turns : Turning c.args.n c.args.at c.args.base c.args.w.now c.args.z.depth = turning c.requires.depth_nonzero c.requires.ready c.well_formed.0.1 in
    (turns).held.fits

pub offset_bounds-w-stack : goal.offset_bounds-w-stack
offset_bounds-w-stack c =
    let turns : Turning c.args.n c.args.at c.args.base c.args.w.now c.args.z.depth = turning c.requires.depth_nonzero c.requires.ready c.well_formed.0.1 in
    (turns).held.in_bytes

pub bounds-w-stack : goal.bounds-w-stack
bounds-w-stack c =
    let turns : Turning c.args.n c.args.at c.args.base c.args.w.now c.args.z.depth = turning c.requires.depth_nonzero c.requires.ready c.well_formed.0.1 in
    (turns).held.inside

pub overflow_add-k : goal.overflow_add-k
overflow_add-k c =
    let turns : Turning c.args.n c.args.at c.args.base c.args.w.now c.args.z.depth = turning c.requires.depth_nonzero c.requires.ready c.well_formed.0.1 in
    (turns).looked.fits

pub offset_bounds-w-next : goal.offset_bounds-w-next
offset_bounds-w-next c =
    let turns : Turning c.args.n c.args.at c.args.base c.args.w.now c.args.z.depth = turning c.requires.depth_nonzero c.requires.ready c.well_formed.0.1 in
    (turns).looked.in_bytes

pub bounds-w-next : goal.bounds-w-next
bounds-w-next c =
    let turns : Turning c.args.n c.args.at c.args.base c.args.w.now c.args.z.depth = turning c.requires.depth_nonzero c.requires.ready c.well_formed.0.1 in
    (turns).looked.inside

pub overflow_add-end : goal.overflow_add-end
overflow_add-end c =
    let turns : Turning c.args.n c.args.at c.args.base c.args.w.now c.args.z.depth = turning c.requires.depth_nonzero c.requires.ready c.well_formed.0.1 in
    (turns).begin

pub overflow_add-end-2 : goal.overflow_add-end-2
overflow_add-end-2 c =
    let turns : Turning c.args.n c.args.at c.args.base c.args.w.now c.args.z.depth = turning c.requires.depth_nonzero c.requires.ready c.well_formed.0.1 in
    (turns).end.fits

pub offset_bounds-w-at : goal.offset_bounds-w-at
offset_bounds-w-at c =
    let turns : Turning c.args.n c.args.at c.args.base c.args.w.now c.args.z.depth = turning c.requires.depth_nonzero c.requires.ready c.well_formed.0.1 in
    (turns).end.in_bytes

pub bounds-w-at : goal.bounds-w-at
bounds-w-at c =
    let turns : Turning c.args.n c.args.at c.args.base c.args.w.now c.args.z.depth = turning c.requires.depth_nonzero c.requires.ready c.well_formed.0.1 in
    (turns).end.inside

pub overflow_add-v : goal.overflow_add-v
overflow_add-v c =
    let more : next_of c.args.n c.args.base c.args.w.now (top_of c.args.n c.args.base c.args.w.now c.args.z.depth) ≤ ends c.args.w.now c.args.at (top_of c.args.n c.args.base c.args.w.now c.args.z.depth) = c.if-k-end.true in
    let at_edge : AtEdge c.args.n c.args.at c.args.base c.args.w.now c.args.z.depth = edge c.requires.depth_nonzero c.requires.ready c.well_formed.0.1 (more) in
    (at_edge).rows

pub overflow_add-v-then-k-end : goal.overflow_add-v-then-k-end
overflow_add-v-then-k-end c =
    let more : next_of c.args.n c.args.base c.args.w.now (top_of c.args.n c.args.base c.args.w.now c.args.z.depth) ≤ ends c.args.w.now c.args.at (top_of c.args.n c.args.base c.args.w.now c.args.z.depth) = c.if-k-end.true in
    let at_edge : AtEdge c.args.n c.args.at c.args.base c.args.w.now c.args.z.depth = edge c.requires.depth_nonzero c.requires.ready c.well_formed.0.1 (more) in
    (at_edge).to.fits

pub offset_bounds-w-at-then-k-end : goal.offset_bounds-w-at-then-k-end
offset_bounds-w-at-then-k-end c =
    let more : next_of c.args.n c.args.base c.args.w.now (top_of c.args.n c.args.base c.args.w.now c.args.z.depth) ≤ ends c.args.w.now c.args.at (top_of c.args.n c.args.base c.args.w.now c.args.z.depth) = c.if-k-end.true in
    let at_edge : AtEdge c.args.n c.args.at c.args.base c.args.w.now c.args.z.depth = edge c.requires.depth_nonzero c.requires.ready c.well_formed.0.1 (more) in
    (at_edge).to.in_bytes

pub bounds-w-at-then-k-end : goal.bounds-w-at-then-k-end
bounds-w-at-then-k-end c =
    let more : next_of c.args.n c.args.base c.args.w.now (top_of c.args.n c.args.base c.args.w.now c.args.z.depth) ≤ ends c.args.w.now c.args.at (top_of c.args.n c.args.base c.args.w.now c.args.z.depth) = c.if-k-end.true in
    let at_edge : AtEdge c.args.n c.args.at c.args.base c.args.w.now c.args.z.depth = edge c.requires.depth_nonzero c.requires.ready c.well_formed.0.1 (more) in
    (at_edge).to.inside

pub overflow_add-looked : goal.overflow_add-looked
overflow_add-looked c =
    let more : next_of c.args.n c.args.base c.args.w.now (top_of c.args.n c.args.base c.args.w.now c.args.z.depth) ≤ ends c.args.w.now c.args.at (top_of c.args.n c.args.base c.args.w.now c.args.z.depth) = c.if-k-end.true in
    let at_edge : AtEdge c.args.n c.args.at c.args.base c.args.w.now c.args.z.depth = edge c.requires.depth_nonzero c.requires.ready c.well_formed.0.1 (more) in
    (at_edge).more

pub overflow_add-next-then-k-end : goal.overflow_add-next-then-k-end
overflow_add-next-then-k-end c =
    let more : next_of c.args.n c.args.base c.args.w.now (top_of c.args.n c.args.base c.args.w.now c.args.z.depth) ≤ ends c.args.w.now c.args.at (top_of c.args.n c.args.base c.args.w.now c.args.z.depth) = c.if-k-end.true in
    let at_edge : AtEdge c.args.n c.args.at c.args.base c.args.w.now c.args.z.depth = edge c.requires.depth_nonzero c.requires.ready c.well_formed.0.1 (more) in
    (at_edge).seen.fits

pub offset_bounds-w-next-then-k-end : goal.offset_bounds-w-next-then-k-end
offset_bounds-w-next-then-k-end c =
    let more : next_of c.args.n c.args.base c.args.w.now (top_of c.args.n c.args.base c.args.w.now c.args.z.depth) ≤ ends c.args.w.now c.args.at (top_of c.args.n c.args.base c.args.w.now c.args.z.depth) = c.if-k-end.true in
    let at_edge : AtEdge c.args.n c.args.at c.args.base c.args.w.now c.args.z.depth = edge c.requires.depth_nonzero c.requires.ready c.well_formed.0.1 (more) in
    (at_edge).seen.in_bytes

pub bounds-w-next-then-k-end : goal.bounds-w-next-then-k-end
bounds-w-next-then-k-end c =
    let more : next_of c.args.n c.args.base c.args.w.now (top_of c.args.n c.args.base c.args.w.now c.args.z.depth) ≤ ends c.args.w.now c.args.at (top_of c.args.n c.args.base c.args.w.now c.args.z.depth) = c.if-k-end.true in
    let at_edge : AtEdge c.args.n c.args.at c.args.base c.args.w.now c.args.z.depth = edge c.requires.depth_nonzero c.requires.ready c.well_formed.0.1 (more) in
    (at_edge).seen.inside

pub push-requires : goal.push-requires
push-requires c =
    let more : next_of c.args.n c.args.base c.args.w.now (top_of c.args.n c.args.base c.args.w.now c.args.z.depth) ≤ ends c.args.w.now c.args.at (top_of c.args.n c.args.base c.args.w.now c.args.z.depth) = c.if-k-end.true in (
      v_ok _ _ _ _ _ _ c.requires.depth_nonzero (more) c.requires.ready,
      room_for _ _ _ _ _ _ c.requires.depth_nonzero (more) c.requires.ready c.if-w-next-eq0.true,
      (top _ _ _ _ _ _ c.requires.depth_nonzero c.requires.ready).starts,
      (top _ _ _ _ _ _ c.requires.depth_nonzero c.requires.ready).room,
      first_ok _ _ _ _ _ _ c.requires.depth_nonzero (more) c.requires.ready,
    )

pub overflow_add-w : goal.overflow_add-w
overflow_add-w c =
    let turns : Turning c.args.n c.args.at c.args.base c.args.w.now c.args.z.depth = turning c.requires.depth_nonzero c.requires.ready c.well_formed.0.1 in
    (turns).looked.fits

pub offset_bounds-w-next-then-w-next-eq0 : goal.offset_bounds-w-next-then-w-next-eq0
offset_bounds-w-next-then-w-next-eq0 c =
    let turns : Turning c.args.n c.args.at c.args.base c.args.w.now c.args.z.depth = turning c.requires.depth_nonzero c.requires.ready c.well_formed.0.1 in
    (turns).looked.in_bytes

pub bounds-w-next-then-w-next-eq0 : goal.bounds-w-next-then-w-next-eq0
bounds-w-next-then-w-next-eq0 c =
    let turns : Turning c.args.n c.args.at c.args.base c.args.w.now c.args.z.depth = turning c.requires.depth_nonzero c.requires.ready c.well_formed.0.1 in
    rw c.push.ensures (simp length-set (turns).looked.inside)

pub overflow_add-result : goal.overflow_add-result
overflow_add-result c =
    let more : next_of c.args.n c.args.base c.args.w.now (top_of c.args.n c.args.base c.args.w.now c.args.z.depth) ≤ ends c.args.w.now c.args.at (top_of c.args.n c.args.base c.args.w.now c.args.z.depth) = c.if-k-end.true in
    deeper c.requires.depth_nonzero c.requires.ready c.well_formed.0.1
    (room_for _ _ _ _ _ _ c.requires.depth_nonzero (more) c.requires.ready c.if-w-next-eq0.true)

pub returns-then-w-next-eq0 : goal.returns-then-w-next-eq0
returns-then-w-next-eq0 c =
    let more : next_of c.args.n c.args.base c.args.w.now (top_of c.args.n c.args.base c.args.w.now c.args.z.depth) ≤ ends c.args.w.now c.args.at (top_of c.args.n c.args.base c.args.w.now c.args.z.depth) = c.if-k-end.true in
    rw c.push.ensures
    (turn_new _ _ _ _ _ _ c.requires.depth_nonzero (more) c.requires.ready c.if-w-next-eq0.true _ refl)

pub shape_of-w-then-w-next-eq0 : goal.shape_of-w-then-w-next-eq0
shape_of-w-then-w-next-eq0 c = (returns-then-w-next-eq0 c).kept.len

pub overflow_add-w-then-k-end : goal.overflow_add-w-then-k-end
overflow_add-w-then-k-end c =
    let turns : Turning c.args.n c.args.at c.args.base c.args.w.now c.args.z.depth = turning c.requires.depth_nonzero c.requires.ready c.well_formed.0.1 in
    (turns).looked.fits

pub offset_bounds-w-next-then-k-end-2 : goal.offset_bounds-w-next-then-k-end-2
offset_bounds-w-next-then-k-end-2 c =
    let turns : Turning c.args.n c.args.at c.args.base c.args.w.now c.args.z.depth = turning c.requires.depth_nonzero c.requires.ready c.well_formed.0.1 in
    (turns).looked.in_bytes

pub bounds-w-next-then-k-end-2 : goal.bounds-w-next-then-k-end-2
bounds-w-next-then-k-end-2 c =
    let turns : Turning c.args.n c.args.at c.args.base c.args.w.now c.args.z.depth = turning c.requires.depth_nonzero c.requires.ready c.well_formed.0.1 in
    (turns).looked.inside

pub returns-then-k-end : goal.returns-then-k-end
returns-then-k-end c =
    let more : next_of c.args.n c.args.base c.args.w.now (top_of c.args.n c.args.base c.args.w.now c.args.z.depth) ≤ ends c.args.w.now c.args.at (top_of c.args.n c.args.base c.args.w.now c.args.z.depth) = c.if-k-end.true in
    turn_seen _ _ _ _ _ _ c.requires.depth_nonzero (more) c.requires.ready _ refl c.if-w-next-eq0.false

pub shape_of-w-then-k-end : goal.shape_of-w-then-k-end
shape_of-w-then-k-end c = (returns-then-k-end c).kept.len

pub overflow_sub-last : goal.overflow_sub-last
overflow_sub-last c = (top _ _ _ _ _ _ c.requires.depth_nonzero c.requires.ready).left_pos

pub overflow_add-rank : goal.overflow_add-rank
overflow_add-rank c =
    let turns : Turning c.args.n c.args.at c.args.base c.args.w.now c.args.z.depth = turning c.requires.depth_nonzero c.requires.ready c.well_formed.0.1 in
    (turns).rank

pub overflow_add-w-2 : goal.overflow_add-w-2
overflow_add-w-2 c =
    omega (arith, few c.requires.depth_nonzero c.requires.ready c.well_formed.0.1)

pub offset_bounds-w-base : goal.offset_bounds-w-base
offset_bounds-w-base c =
    omega (arith, few c.requires.depth_nonzero c.requires.ready c.well_formed.0.1)

pub bounds-w-base : goal.bounds-w-base
bounds-w-base c =
    omega (arith, few c.requires.depth_nonzero c.requires.ready c.well_formed.0.1)

pub overflow_add-w-3 : goal.overflow_add-w-3
overflow_add-w-3 c =
    let turns : Turning c.args.n c.args.at c.args.base c.args.w.now c.args.z.depth = turning c.requires.depth_nonzero c.requires.ready c.well_formed.0.1 in
    (turns).ranked.fits

pub offset_bounds-w-rank : goal.offset_bounds-w-rank
offset_bounds-w-rank c =
    let turns : Turning c.args.n c.args.at c.args.base c.args.w.now c.args.z.depth = turning c.requires.depth_nonzero c.requires.ready c.well_formed.0.1 in
    (turns).ranked.in_bytes

pub bounds-w-rank : goal.bounds-w-rank
bounds-w-rank c =
    let turns : Turning c.args.n c.args.at c.args.base c.args.w.now c.args.z.depth = turning c.requires.depth_nonzero c.requires.ready c.well_formed.0.1 in
    simp length-set (turns).ranked.inside

pub returns : goal.returns
returns c =
    turn_left _ _ _ _ _ _ c.requires.depth_nonzero _ _ refl refl c.if-k-end.false c.requires.ready

pub shape_of-w : goal.shape_of-w
shape_of-w c = (returns c).kept.len
