-- `measure_next` meets its contract: the slot's area is made, and put behind the others.
use native.Mathlib.Omega.{arith}
use Rattle.slot_measure.proofs.AllLaws.{next_done}
use Rattle.slot_measure.proofs.slots.measure_next.Goals as goal

pub slot_area-f-requires : goal.slot_area-f-requires
slot_area-f-requires c =
    let R = c.requires.ready in
    let h = c.requires.s_lt_slots.0 in
    let L = R.laid in
    record {
      sound = (R.sound, R.table, L);
      moves_value = (R.fine, R.chains, h);
      in_order = (R.order, omega (arith, R.keys_fit, R.held_fits, L.table_fits, L.heads_fit, L.nexts_fit), R.fits, R.few_pieces, R.few_moves);
      slot_in_bounds = (omega (arith, R.held_fits, L.table_fits, L.heads_fit, L.nexts_fit, L.fits), R.held_small _ h);
    }

pub returns : goal.returns
returns c =
    let a = c.args in
    next_done a.points a.blocks.now a.insts.now a.moves.now a.pieces.now a.p a.keys a.held a.o a.first a.s a.total c.requires.ready
    c.requires.s_lt_slots.0 c.requires.s_lt_slots.1 c.slot_area-f.ensures c.place.ensures
