-- `tarjan::close` meets its contract: the places from p up to i are closed.
use Rattle.tarjan.proofs.Lists.{close_start, close_more}
use Rattle.tarjan.proofs.Bounds.{le_refl, step_le, both_le, at_held}
use Rattle.tarjan.proofs.close.Goals as goal

pub loop-i-init : goal.loop-i-init
loop-i-init c = (le_refl _, c.requires.p_le, close_start _ _ _ _ _ _)

pub loop-i-preserved : goal.loop-i-preserved
loop-i-preserved c = (
  (at_held c.requires c.loop-i.invariant.2 c.loop-i.invariant.0 c.loop-i-test.true c.well_formed.0.1).above,
  step_le _ _ c.loop-i-test.true,
  close_more c.requires
      c.loop-i.invariant.0 c.loop-i-test.true c.loop-i.invariant.2,
)

pub returns : goal.returns
returns c = rw (both_le _ _ c.loop-i.invariant.1 c.loop-i-test.false) at c.loop-i.invariant.2
