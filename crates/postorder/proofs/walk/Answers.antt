-- `postorder::walk` meets its contract: turn by turn, until the stack is empty.
use native.Mathlib.Omega.{arith}
use Rattle.postorder.proofs.Roots.{going_start, going_more, ready_more, root_first, root_ready, walk_done}
use Rattle.postorder.proofs.walk.Goals as goal

pub push-requires : goal.push-requires
push-requires c =
    (c.requires.root_lt_n.0, omega arith, c.requires.ready.held.starts, c.requires.ready.held.room, root_first _ _ _ _ _ _ c.requires.ready c.requires.root_lt_n.0 c.requires.root_lt_n.1)

pub loop-z-init : goal.loop-z-init
loop-z-init c =
    rw c.push.ensures (root_ready _ _ _ _ _ _ c.requires.ready c.requires.root_lt_n.0 c.requires.root_lt_n.1, going_start _ _ _ _ _ _)

pub turn-z-requires : goal.turn-z-requires
turn-z-requires c = record { depth_nonzero = c.loop-z-test.true; ready = c.loop-z.invariant.0 }

pub loop-z-preserved : goal.loop-z-preserved
loop-z-preserved c =
    (ready_more c.loop-z.invariant.0 c.turn-z.ensures, going_more c.loop-z.invariant.1 c.turn-z.ensures)

pub returns : goal.returns
returns c =
    walk_done _ _ _ _ _ _ c.requires.ready c.requires.root_lt_n.0 c.requires.root_lt_n.1 _ _ _ (rw c.push.ensures at c.loop-z.invariant.1)
    (omega arith)

pub shape_of-w : goal.shape_of-w
shape_of-w c = (returns c).kept.len
