-- `area_rows::locals::scatter` meets its contract: the bits that are not left are set.
use Rattle.row_turns.proofs.TurnLaws.{scatter_start, scatter_more, scatter_done}
use native.Mathlib.Omega.{arith}
use lib.ListN.{set}
use Rattle.row_turns.proofs.scatter.Goals as goal

pub loop-left-init : goal.loop-left-init
loop-left-init c = scatter_start _ _ _ _ c.requires.0

pub loop-left-preserved : goal.loop-left-preserved
loop-left-preserved c = scatter_more c.loop-left.invariant c.lowest-b.ensures c.without_lowest-left.ensures c.mark.ensures

pub returns : goal.returns
returns c = scatter_done c.loop-left.invariant (omega arith)
