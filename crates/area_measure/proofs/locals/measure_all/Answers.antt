-- `measure_all` meets its contract: the areas of one local more, each turn.
use native.Mathlib.Omega.{arith}
use Rattle.area_measure.proofs.LocalLaws.{going_start, going_ready, going_more, going_done}
use Rattle.area_measure.proofs.locals.measure_all.Goals as goal

pub loop-l-init : goal.loop-l-init
loop-l-init c =
    let a = c.args in going_start a.blocks.now a.kinds.now a.touches.now a.ends.now a.p a.g a.mark a.o _ c.requires.1

pub measure_next-total-requires : goal.measure_next-total-requires
measure_next-total-requires c =
    let a = c.args in
    record { sound = (c.requires.0, going_ready a.blocks.now a.kinds.now a.touches.now a.ends.now a.p a.g a.mark a.o c.loop-l.invariant); l_in_bounds = (omega arith, c.loop-l.invariant.most) }

pub loop-l-preserved : goal.loop-l-preserved
loop-l-preserved c =
    let a = c.args in
    going_more a.blocks.now a.kinds.now a.touches.now a.ends.now a.p a.g a.mark a.o c.loop-l.invariant
    (omega arith) c.measure_next-total.ensures

pub returns : goal.returns
returns c = let a = c.args in going_done a.blocks.now a.kinds.now a.touches.now a.ends.now a.p a.g a.mark a.o c.loop-l.invariant (omega arith)
