-- `measure_slots` meets its contract: the area of one slot more, each turn.
use native.Mathlib.Omega.{arith}
use Rattle.slot_measure.proofs.AllLaws.{going_start, going_ready, going_small, going_more, going_done}
use Rattle.slot_measure.proofs.slots.measure_slots.Goals as goal

pub loop-s-init : goal.loop-s-init
loop-s-init c =
    let a = c.args in
    going_start a.points a.blocks.now a.insts.now a.moves.now a.pieces.now a.p a.keys a.held a.o a.first a.total _ c.requires.ready c.requires.pieces_bound

pub measure_next-n-requires : goal.measure_next-n-requires
measure_next-n-requires c =
    let a = c.args in
    let G = c.loop-s.invariant in record {
      ready = going_ready a.points a.blocks.now a.insts.now a.moves.now a.pieces.now a.p a.keys a.held a.o a.first G;
      s_lt_slots =
          (omega arith, going_small a.points a.blocks.now a.insts.now a.moves.now a.pieces.now a.p a.keys a.held a.o a.first G (omega arith));
    }

pub loop-s-preserved : goal.loop-s-preserved
loop-s-preserved c =
    let a = c.args in
    going_more a.points a.blocks.now a.insts.now a.moves.now a.pieces.now a.p a.keys a.held a.o a.first
    c.loop-s.invariant (omega arith) c.measure_next-n.ensures

pub returns : goal.returns
returns c = let a = c.args in going_done a.points a.blocks.now a.insts.now a.moves.now a.pieces.now a.p a.keys a.held a.o a.first c.loop-s.invariant (omega arith)
