-- `slot_measure::slot_area` meets its contract: without a register by the moves, else by the register.
use native.Mathlib.Omega.{arith}
use Rattle.slot_measure.proofs.PlaceLaws.{by_moves, by_register}
use Rattle.slot_measure.proofs.slot_area.Goals as goal

pub returns-then-x-eq0 : goal.returns-then-x-eq0
returns-then-x-eq0 c = by_moves _ _ _ _ _ _ _ _ c.if-x-eq0.true c.of_moves.ensures

pub returns : goal.returns
returns c = by_register _ _ _ _ _ _ _ _ _ (omega (arith, c.if-x-eq0.false)) c.of_register.ensures
