-- `slot_spots::cover` meets its contract: the points either side of the move.
use native.Mathlib.Nat.{add-zero}
use Prim.Native.Nat.{ℕ, ◌*◌}
use mathlib.Core.Path.{sym, ap, ◌∙◌}
use mathlib.Core.List.{[]}
use lib.ListN.{get_or}
use Rattle.graph.specs.Line.{blocks_of}
use Rattle.carrying.specs.Insts.{insts_of}
use Rattle.move_points.specs.Inner.{position_at, move_row}
use Rattle.move_points.proofs.MoveLaws.{move_fine, not_nowhere}
use Rattle.slot_spots.proofs.MoveLaws.{cover_is}
use Rattle.words.specs.Widths.{move_width}
use Rattle.words.specs.Inner.{move_number}
use Rattle.slot_spots.proofs.cover.Goals as goal

pub position-at-requires : goal.position-at-requires
position-at-requires c = c.requires.sound

pub returns-in_default : goal.returns-in_default
returns-in_default c =
    absurd (not_nowhere c.args.points (blocks_of c.args.blocks.now) (insts_of c.args.insts.now []) 0 (move_row c.args.moves.now c.args.i) (move_fine
    (blocks_of c.args.blocks.now) (insts_of c.args.insts.now []) c.args.moves.now c.args.i c.requires.i_bound.1 c.requires.i_bound.0) (sym c.in_default.is
    ∙ c.position-at.ensures ∙ ap
    (λ (x : ℕ). position_at (blocks_of c.args.blocks.now) (insts_of c.args.insts.now []) (get_or c.args.moves.now x 0) (move_number c.args.moves.now c.args.i))
    (sym (add-zero (move_width * c.args.i)))))

pub returns : goal.returns
returns c =
    cover_is c.args.points (blocks_of c.args.blocks.now) (insts_of c.args.insts.now []) (move_row c.args.moves.now c.args.i) _ _ _ _ (move_fine
    (blocks_of c.args.blocks.now) (insts_of c.args.insts.now []) c.args.moves.now c.args.i c.requires.i_bound.1 c.requires.i_bound.0) (sym
    c.in-Some.is ∙ c.position-at.ensures ∙ ap
    (λ (x : ℕ). position_at (blocks_of c.args.blocks.now) (insts_of c.args.insts.now []) (get_or c.args.moves.now x 0) (move_number c.args.moves.now c.args.i))
    (sym (add-zero (move_width * c.args.i)))) c.preceding-start.ensures c.beyond-end.ensures c.pack.ensures
