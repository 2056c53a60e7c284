-- `flow::rows::flowed` meets its contract: the rows of the first i places of the order are final.
use native.Mathlib.Omega.{arith}
use Rattle.flow_rows.proofs.Whole.{flow_start, flow_more, flow_done}
use Rattle.flow_rows.proofs.flowed.Goals as goal

pub loop-i-init : goal.loop-i-init
loop-i-init c = flow_start _ _ c.requires.0 c.requires.1

pub loop-i-smaller : goal.loop-i-smaller
loop-i-smaller c = omega (arith, c.visit-i.ensures.run.first, c.visit-i.ensures.run.last)

pub loop-i-preserved : goal.loop-i-preserved
loop-i-preserved c = flow_more c.loop-i.invariant c.loop-i-test.true c.visit-i.ensures

pub returns : goal.returns
returns c = flow_done c.loop-i.invariant c.loop-i-test.false
