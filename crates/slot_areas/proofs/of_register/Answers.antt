-- `slot_areas::of_register` meets its contract: no live piece, or the live pieces and what the moves cover merged.
use native.Mathlib.Omega.{arith}
use Prim.Native.Nat.{◌+◌, ◌≤◌}
use mathlib.Core.Path.{refl}
use Rattle.words.specs.Widths.{piece_count, move_count}
use Rattle.slot_areas.proofs.AreaLaws.{held_table, held_laid, held_chains, held_none, held_some}
use Rattle.slot_areas.proofs.of_register.Goals as goal

pub returns-then-n-eq0 : goal.returns-then-n-eq0
returns-then-n-eq0 c =
    held_none c.args.points c.args.blocks.now c.args.insts.now c.args.moves.now c.args.pieces.now c.args.slot c.requires.sound.2 _ refl
    (omega (arith, c.requires.in_order.2)) c.fetch-n.ensures (omega arith)

pub fetch-c-requires : goal.fetch-c-requires
fetch-c-requires c =
    record {
      sound = (
        c.requires.sound.0,
        held_table c.args.points c.args.blocks.now c.args.insts.now c.args.moves.now c.args.pieces.now c.args.slot c.requires.sound.2 _ refl
            (omega (arith, c.requires.in_order.2)) c.fetch-n.ensures c.requires.sound.1,
        held_laid c.args.points c.args.blocks.now c.args.insts.now c.args.moves.now
            c.args.pieces.now c.args.slot c.requires.sound.2 _ refl (omega (arith, c.requires.in_order.2)) c.fetch-n.ensures,
      );
      moves_value = (
        c.requires.moves_value.0,
        held_chains c.args.points
            c.args.blocks.now c.args.insts.now c.args.moves.now c.args.pieces.now c.args.slot c.requires.sound.2 _ refl (omega (arith, c.requires.in_order.2)) c.fetch-n.ensures
            c.requires.moves_value.1,
        c.requires.moves_value.2,
      );
    }

pub overflow_add-result : goal.overflow_add-result
overflow_add-result c =
    let q : c.fetch-c.result ≤ move_count c.args.moves.now + move_count c.args.moves.now = c.fetch-c.ensures.few in
    let u : c.fetch-n.result ≤ piece_count c.args.pieces.now = c.fetch-n.ensures.count in
    let a : move_count c.args.moves.now ≤ 65536 = c.requires.in_order.4 in
    let b : piece_count c.args.pieces.now ≤ 65536 = c.requires.in_order.3 in
    omega (arith, c.merge-r.ensures.within)

pub returns : goal.returns
returns c =
    held_some c.args.points c.args.blocks.now c.args.insts.now c.args.moves.now c.args.pieces.now c.args.slot c.requires.sound.2 _ refl
    (omega (arith, c.requires.in_order.2)) c.fetch-n.ensures (omega arith)
    c.fetch-c.ensures (omega arith) c.merge-r.ensures
