-- `move_covers::covers` meets its contract: to the slot, from it, both or neither.
use native.Mathlib.Omega.{arith}
use Prim.Native.Nat.{ℕ, ◌+◌, ◌*◌}
use mathlib.Core.Path.{sym, ap, ◌∙◌}
use lib.ListN.{get_or}
use Rattle.move_covers.proofs.MovedLaws.{wrote_none, wrote_then, wrote_as}
use Rattle.move_points.proofs.MoveLaws.{move_fine, covers_both, covers_to, covers_from, covers_none, point_is, not_nowhere}
use native.Mathlib.Nat.{add-zero}
use mathlib.Core.List.{[], ◌∷◌, ◌++◌}
use Rattle.ranges.specs.declared.Range.{Range}
use Rattle.graph.specs.Line.{blocks_of}
use Rattle.carrying.specs.Insts.{insts_of}
use Rattle.move_points.specs.Inner.{position_at, move_row}
use Rattle.words.specs.Widths.{move_width}
use Rattle.words.specs.Inner.{move_number}
use Rattle.move_covers.proofs.covers.Goals as goal

pub overflow_mul-i : goal.overflow_mul-i
overflow_mul-i c = omega arith

pub offset_bounds-moves-i : goal.offset_bounds-moves-i
offset_bounds-moves-i c = omega arith

pub bounds-moves-i : goal.bounds-moves-i
bounds-moves-i c = omega arith

pub overflow_mul-i-2 : goal.overflow_mul-i-2
overflow_mul-i-2 c = omega arith

pub overflow_add-i : goal.overflow_add-i
overflow_add-i c = omega arith

pub offset_bounds-moves-i-2 : goal.offset_bounds-moves-i-2
offset_bounds-moves-i-2 c = omega arith

pub bounds-moves-i-2 : goal.bounds-moves-i-2
bounds-moves-i-2 c = omega arith

pub position-at-requires : goal.position-at-requires
position-at-requires c =
    (c.requires.sound.0, c.requires.sound.1, omega (arith, c.requires.sound.2))

pub returns-in_default : goal.returns-in_default
returns-in_default c =
    absurd (not_nowhere c.args.points (blocks_of (c.args.blocks.now)) (insts_of (c.args.insts.now) []) c.args.slot (move_row (c.args.moves.now) c.args.i)
    (move_fine (blocks_of (c.args.blocks.now)) (insts_of (c.args.insts.now) []) (c.args.moves.now) c.args.i c.requires.i_bound.1 c.requires.i_bound.0) (sym
    c.in_default.is ∙ c.position-at.ensures ∙ ap (λ (x : ℕ). position_at (blocks_of (c.args.blocks.now)) (insts_of (c.args.insts.now) [])
    (get_or (c.args.moves.now) x 0) (move_number (c.args.moves.now) c.args.i)) (sym (add-zero (move_width * c.args.i)))))

pub overflow_mul-to : goal.overflow_mul-to
overflow_mul-to c = omega arith

pub overflow_add-to : goal.overflow_add-to
overflow_add-to c = omega arith

pub offset_bounds-moves-i-3 : goal.offset_bounds-moves-i-3
offset_bounds-moves-i-3 c = omega arith

pub bounds-moves-i-3 : goal.bounds-moves-i-3
bounds-moves-i-3 c = omega arith

pub overflow_mul-from : goal.overflow_mul-from
overflow_mul-from c = omega arith

pub overflow_add-from : goal.overflow_add-from
overflow_add-from c = omega arith

pub offset_bounds-moves-i-4 : goal.offset_bounds-moves-i-4
offset_bounds-moves-i-4 c = omega arith

pub bounds-moves-i-4 : goal.bounds-moves-i-4
bounds-moves-i-4 c = omega arith

pub cover-k-requires : goal.cover-k-requires
cover-k-requires c = let q = c.requires.i_bound.2 in omega arith

pub cover-requires : goal.cover-requires
cover-requires c =
    let q = c.requires.i_bound.2 in
    let l = c.cover-k.ensures.len in
    let n = c.cover-k.ensures.count in
    omega arith

pub shape_of-out-then-from-slot : goal.shape_of-out-then-from-slot
shape_of-out-then-from-slot c = c.cover.ensures.len ∙ c.cover-k.ensures.len

pub returns-then-from-slot : goal.returns-then-from-slot
returns-then-from-slot c =
    wrote_as (wrote_then c.cover-k.ensures c.cover.ensures) (ap (λ (r : Range). (r ∷ []) ++ (r ∷ []))
    (point_is c.args.points (blocks_of (c.args.blocks.now)) (insts_of (c.args.insts.now) []) c.args.slot (move_row (c.args.moves.now) c.args.i) _ (move_fine
    (blocks_of (c.args.blocks.now)) (insts_of (c.args.insts.now) []) (c.args.moves.now) c.args.i c.requires.i_bound.1 c.requires.i_bound.0) (sym
    c.in-Some.is
    ∙ c.position-at.ensures ∙ ap (λ (x : ℕ). position_at
    (blocks_of (c.args.blocks.now)) (insts_of (c.args.insts.now) []) (get_or (c.args.moves.now) x 0) (move_number (c.args.moves.now) c.args.i)) (sym
    (add-zero (move_width * c.args.i))))) ∙ sym (covers_both c.args.points (blocks_of (c.args.blocks.now)) (insts_of (c.args.insts.now) []) c.args.slot (move_row
    (c.args.moves.now) c.args.i) c.if-to-slot.true c.if-from-slot.true))

pub shape_of-out-then-to-slot : goal.shape_of-out-then-to-slot
shape_of-out-then-to-slot c = c.cover-k.ensures.len

pub returns-then-to-slot : goal.returns-then-to-slot
returns-then-to-slot c =
    wrote_as c.cover-k.ensures (ap (λ (r : Range). r ∷ []) (point_is c.args.points (blocks_of (c.args.blocks.now)) (insts_of
    (c.args.insts.now) []) c.args.slot (move_row (c.args.moves.now) c.args.i) _ (move_fine (blocks_of (c.args.blocks.now)) (insts_of (c.args.insts.now) [])
    (c.args.moves.now) c.args.i c.requires.i_bound.1 c.requires.i_bound.0) (sym c.in-Some.is
    ∙ c.position-at.ensures ∙ ap (λ (x : ℕ). position_at (blocks_of (c.args.blocks.now))
    (insts_of (c.args.insts.now) []) (get_or (c.args.moves.now) x 0) (move_number (c.args.moves.now) c.args.i)) (sym (add-zero (move_width * c.args.i))))) ∙ sym
    (covers_to c.args.points (blocks_of (c.args.blocks.now)) (insts_of (c.args.insts.now) []) c.args.slot (move_row (c.args.moves.now) c.args.i)
    c.if-to-slot.true c.if-from-slot.false))

pub cover-requires-then-from-slot-2 : goal.cover-requires-then-from-slot-2
cover-requires-then-from-slot-2 c = let q = c.requires.i_bound.2 in omega arith

pub shape_of-out-then-from-slot-2 : goal.shape_of-out-then-from-slot-2
shape_of-out-then-from-slot-2 c = c.cover-then-from-slot-2.ensures.len

pub returns-then-from-slot-2 : goal.returns-then-from-slot-2
returns-then-from-slot-2 c =
    wrote_as c.cover-then-from-slot-2.ensures (ap (λ (r : Range). r ∷ []) (point_is c.args.points (blocks_of (c.args.blocks.now)) (insts_of (c.args.insts.now) [])
    c.args.slot (move_row (c.args.moves.now) c.args.i) _ (move_fine (blocks_of (c.args.blocks.now)) (insts_of (c.args.insts.now) []) (c.args.moves.now)
    c.args.i c.requires.i_bound.1 c.requires.i_bound.0) (sym c.in-Some.is
    ∙ c.position-at.ensures ∙ ap (λ (x : ℕ). position_at (blocks_of (c.args.blocks.now))
    (insts_of (c.args.insts.now) []) (get_or (c.args.moves.now) x 0) (move_number (c.args.moves.now) c.args.i)) (sym (add-zero (move_width * c.args.i))))) ∙ sym
    (covers_from c.args.points (blocks_of (c.args.blocks.now)) (insts_of (c.args.insts.now) []) c.args.slot (move_row (c.args.moves.now) c.args.i)
    c.if-to-slot.false c.if-from-slot-2.true))

pub returns : goal.returns
returns c =
    wrote_as (wrote_none _ _) (sym (covers_none c.args.points (blocks_of (c.args.blocks.now)) (insts_of (c.args.insts.now) []) c.args.slot
    (move_row (c.args.moves.now) c.args.i) c.if-to-slot.false c.if-from-slot-2.false))
