-- `move_points::position` meets its contract: a law for each position.
use native.Mathlib.Omega.{arith}
use mathlib.Core.Path.{sym, ◌∙◌}
use Rattle.graph.specs.Line.{blocks_of}
use Rattle.graph.proofs.Line.{blocks_length}
use Rattle.move_points.proofs.MoveLaws.{row_there, at_early, at_late, start_there, end_there, at_start, at_end, at_none}
use Rattle.move_points.proofs.position.Goals as goal

pub overflow_cast-result : goal.overflow_cast-result
overflow_cast-result c = omega arith

pub overflow_mul-result : goal.overflow_mul-result
overflow_mul-result c = omega arith

pub overflow_add-result : goal.overflow_add-result
overflow_add-result c = omega arith

pub offset_bounds-insts-i : goal.offset_bounds-insts-i
offset_bounds-insts-i c = omega arith

pub bounds-insts-i : goal.bounds-insts-i
bounds-insts-i c =
    let h = (at_early c.args.blocks.now c.args.insts.now c.args.kind c.args.number _
    (sym c.locate.ensures ∙ c.in-Early.is)).0 in
    omega arith

pub overflow_cast-result-in-Late : goal.overflow_cast-result-in-Late
overflow_cast-result-in-Late c = omega arith

pub overflow_mul-result-in-Late : goal.overflow_mul-result-in-Late
overflow_mul-result-in-Late c = omega arith

pub overflow_add-result-in-Late : goal.overflow_add-result-in-Late
overflow_add-result-in-Late c = omega arith

pub offset_bounds-insts-i-in-Late : goal.offset_bounds-insts-i-in-Late
offset_bounds-insts-i-in-Late c = omega arith

pub bounds-insts-i-in-Late : goal.bounds-insts-i-in-Late
bounds-insts-i-in-Late c =
    let h = (at_late c.args.blocks.now c.args.insts.now c.args.kind c.args.number _
    (sym c.locate.ensures ∙ c.in-Late.is)).0 in
    omega arith

pub place_of-requires : goal.place_of-requires
place_of-requires c =
    let h = start_there c.args.blocks.now c.args.insts.now c.args.kind c.args.number _ (sym c.locate.ensures ∙ c.in-Start.is) in
    let n = blocks_length c.args.blocks.now in
    omega arith

pub overflow_mul-result-in-Start : goal.overflow_mul-result-in-Start
overflow_mul-result-in-Start c =
    let t = start_there c.args.blocks.now c.args.insts.now c.args.kind c.args.number _
    (sym c.locate.ensures ∙ c.in-Start.is) in
    let h = (row_there c.args.blocks.now c.requires.0 _ _ t (c.place_of.ensures.1 (blocks_of c.args.blocks.now) c.requires.1 t)).1 in
    omega arith

pub overflow_add-result-in-Start : goal.overflow_add-result-in-Start
overflow_add-result-in-Start c =
    let t = start_there c.args.blocks.now c.args.insts.now c.args.kind c.args.number _
    (sym c.locate.ensures ∙ c.in-Start.is) in
    let h = (row_there c.args.blocks.now c.requires.0 _ _ t (c.place_of.ensures.1 (blocks_of c.args.blocks.now) c.requires.1 t)).1 in
    omega arith

pub offset_bounds-blocks-place_of : goal.offset_bounds-blocks-place_of
offset_bounds-blocks-place_of c =
    let t = start_there c.args.blocks.now c.args.insts.now c.args.kind c.args.number _
    (sym c.locate.ensures ∙ c.in-Start.is) in
    let h = (row_there c.args.blocks.now c.requires.0 _ _ t (c.place_of.ensures.1 (blocks_of c.args.blocks.now) c.requires.1 t)).1 in
    omega arith

pub bounds-blocks-place_of : goal.bounds-blocks-place_of
bounds-blocks-place_of c =
    let t = start_there c.args.blocks.now c.args.insts.now c.args.kind c.args.number _
    (sym c.locate.ensures ∙ c.in-Start.is) in
    let h = (row_there c.args.blocks.now c.requires.0 _ _ t (c.place_of.ensures.1 (blocks_of c.args.blocks.now) c.requires.1 t)).1 in
    omega arith

pub place_of-requires-in-End : goal.place_of-requires-in-End
place_of-requires-in-End c =
    let h = end_there c.args.blocks.now c.args.insts.now c.args.kind c.args.number _ (sym c.locate.ensures ∙ c.in-End.is) in
    let n = blocks_length c.args.blocks.now in
    omega arith

pub overflow_mul-result-in-End : goal.overflow_mul-result-in-End
overflow_mul-result-in-End c =
    let t = end_there c.args.blocks.now c.args.insts.now c.args.kind c.args.number _
    (sym c.locate.ensures ∙ c.in-End.is) in
    let h = (row_there c.args.blocks.now c.requires.0 _ _ t (c.place_of-in-End.ensures.1 (blocks_of c.args.blocks.now) c.requires.1 t)).1 in
    omega arith

pub overflow_add-result-in-End : goal.overflow_add-result-in-End
overflow_add-result-in-End c =
    let t = end_there c.args.blocks.now c.args.insts.now c.args.kind c.args.number _
    (sym c.locate.ensures ∙ c.in-End.is) in
    let h = (row_there c.args.blocks.now c.requires.0 _ _ t (c.place_of-in-End.ensures.1 (blocks_of c.args.blocks.now) c.requires.1 t)).1 in
    omega arith

pub offset_bounds-blocks-place_of-in-End : goal.offset_bounds-blocks-place_of-in-End
offset_bounds-blocks-place_of-in-End c =
    let t = end_there c.args.blocks.now c.args.insts.now c.args.kind c.args.number _
    (sym c.locate.ensures ∙ c.in-End.is) in
    let h = (row_there c.args.blocks.now c.requires.0 _ _ t (c.place_of-in-End.ensures.1 (blocks_of c.args.blocks.now) c.requires.1 t)).1 in
    omega arith

pub bounds-blocks-place_of-in-End : goal.bounds-blocks-place_of-in-End
bounds-blocks-place_of-in-End c =
    let t = end_there c.args.blocks.now c.args.insts.now c.args.kind c.args.number _
    (sym c.locate.ensures ∙ c.in-End.is) in
    let h = (row_there c.args.blocks.now c.requires.0 _ _ t (c.place_of-in-End.ensures.1 (blocks_of c.args.blocks.now) c.requires.1 t)).1 in
    omega arith

pub returns-in-Early : goal.returns-in-Early
returns-in-Early c =
    (at_early c.args.blocks.now c.args.insts.now c.args.kind c.args.number _
    (sym c.locate.ensures ∙ c.in-Early.is)).1

pub returns-in-Late : goal.returns-in-Late
returns-in-Late c =
    (at_late c.args.blocks.now c.args.insts.now c.args.kind c.args.number _
    (sym c.locate.ensures ∙ c.in-Late.is)).1

pub returns-in-Start : goal.returns-in-Start
returns-in-Start c =
    let t = start_there c.args.blocks.now c.args.insts.now c.args.kind c.args.number _ (sym c.locate.ensures ∙ c.in-Start.is) in
    let r = row_there c.args.blocks.now c.requires.0 _ _ t (c.place_of.ensures.1 (blocks_of c.args.blocks.now) c.requires.1 t) in
    at_start c.args.blocks.now c.args.insts.now c.args.kind c.args.number _ _ (sym c.locate.ensures ∙ c.in-Start.is) r.0 r.1

pub returns-in-End : goal.returns-in-End
returns-in-End c =
    let t = end_there c.args.blocks.now c.args.insts.now c.args.kind c.args.number _ (sym c.locate.ensures ∙ c.in-End.is) in
    let r = row_there c.args.blocks.now c.requires.0 _ _ t (c.place_of-in-End.ensures.1 (blocks_of c.args.blocks.now) c.requires.1 t) in
    at_end c.args.blocks.now c.args.insts.now c.args.kind c.args.number _ _ (sym c.locate.ensures ∙ c.in-End.is) r.0 r.1

pub returns-in-Stray : goal.returns-in-Stray
returns-in-Stray c =
    at_none c.args.blocks.now c.args.insts.now c.args.kind c.args.number (sym c.locate.ensures ∙ c.in-Stray.is)
