-- `place` meets its contract: the rows stand at the end of the room.
use Rattle.fit_cells.proofs.EachLaws.{in_order_below, step_fits, step_word}
use native.Mathlib.Omega.{arith}
use Rattle.fit_cells.proofs.place.Goals as goal

pub overflow_add-step-2 : goal.overflow_add-step-2
overflow_add-step-2 c = record { fits = step_word _ _ c.reach.ensures }

pub each-requires : goal.each-requires
each-requires c =
    let I = c.requires.0 in
    let f = c.width_for-width.ensures in (
      in_order_below I _ (omega (arith, f.1, f.0, I.low, I.high)) (omega (arith, f.1, f.0, I.low, I.high)),
      c.requires.1,
      record { rows_le = omega (arith, f.1, f.0, I.low, I.high); narrow = omega (arith, f.0); some_step = omega arith; step_le = step_fits _ _ c.reach.ensures },
    )

pub returns : goal.returns
returns c =
    record { rows = _; holds = c.each.ensures.holds; rest = λ x h. c.each.ensures.rest x (omega (arith, c.width_for-width.ensures.1, c.width_for-width.ensures.0, c.requires.0.low, c.requires.0.high)) }
