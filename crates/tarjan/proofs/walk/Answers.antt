use Rattle.tarjan.proofs.Roots.{going_start, going_more, ready_more, root_ready, walk_done}
use native.Mathlib.Omega.{arith}
use Rattle.tarjan.proofs.walk.Goals as goal

-- src/lib.rt:108:5
pub loop-z-init : goal.loop-z-init
loop-z-init c =
    rw c.push.ensures (root_ready _ _ _ _ _ _ _ _ c.requires.ready c.requires.root_lt_n.0 c.requires.root_lt_n.1, going_start _ _ _ _ _ _ _ _ _)

-- src/lib.rt:108:5
pub loop-z-preserved : goal.loop-z-preserved
loop-z-preserved c =
    (ready_more c.loop-z.invariant.0 c.turn-z.ensures, going_more c.loop-z.invariant.1 c.turn-z.ensures)

-- src/lib.rt:101:1
pub returns : goal.returns
returns c =
    walk_done _ _ _ _ _ _ _ _ c.requires.ready c.requires.root_lt_n.0 c.requires.root_lt_n.1 _ _ _ _ _ (rw c.push.ensures at c.loop-z.invariant.1)
    (omega arith)
