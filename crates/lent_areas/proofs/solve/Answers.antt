-- `solve` meets its contract: the regions are laid out, the locals marked, the rows made, and the areas measured.
use mathlib.Core.List.{[]}
use Rattle.words.proofs.FitLaws.{positive}
use Rattle.lent_areas.proofs.SolveLaws.{markable, grid_laid, mark_room, mark_fits, past_ends, near, ready, solved, solved_none}
use Rattle.lent_areas.proofs.solve.Goals as goal

pub returns-then-kinds-eq0 : goal.returns-then-kinds-eq0
returns-then-kinds-eq0 c = let a = c.args in solved_none a.blocks.now a.edges.now a.kinds.now a.touches.now a.ends.now a.areas _ c.if-kinds-eq0.true

pub places-p-requires : goal.places-p-requires
places-p-requires c = c.requires.small

pub overflow_add-p : goal.overflow_add-p
overflow_add-p c = near _ (past_ends _ _ c.requires.small c.places-p.ensures)

pub grid-g-requires : goal.grid-g-requires
grid-g-requires c =
    (c.requires.small, past_ends _ _ c.requires.small c.places-p.ensures)

pub overflow_mul-from : goal.overflow_mul-from
overflow_mul-from c =
    let a = c.args in
    (mark_fits a.blocks.now a.edges.now a.kinds.now a.touches.now a.ends.now a.areas _ _ c.requires
    (positive _ c.if-kinds-eq0.false) c.places-p.ensures c.grid-g.ensures).0

pub overflow_add-from : goal.overflow_add-from
overflow_add-from c =
    let a = c.args in
    (mark_fits a.blocks.now a.edges.now a.kinds.now a.touches.now a.ends.now a.areas _ _ c.requires
    (positive _ c.if-kinds-eq0.false) c.places-p.ensures c.grid-g.ensures).1

pub mark-requires : goal.mark-requires
mark-requires c =
    let a = c.args in
    markable a.blocks.now a.edges.now a.kinds.now a.touches.now a.ends.now a.areas _ _ c.requires
    (positive _ c.if-kinds-eq0.false) c.places-p.ensures
    c.grid-g.ensures

pub rows-requires : goal.rows-requires
rows-requires c =
    let a = c.args in record {
      sound = (
        c.requires.sound,
        c.requires.edges_fine,
        grid_laid a.blocks.now a.edges.now a.kinds.now a.touches.now a.ends.now a.areas _ _ c.requires (positive _ c.if-kinds-eq0.false) c.places-p.ensures c.grid-g.ensures c.mark.ensures.kept.len,
      );
      quiet = ((
        (c.mark.ensures.marks []).quiet,
        mark_room a.blocks.now a.edges.now a.kinds.now a.touches.now a.ends.now a.areas _ _ c.requires (positive _ c.if-kinds-eq0.false) c.places-p.ensures c.grid-g.ensures c.mark.ensures,
      ));
    }

pub measure_all-requires : goal.measure_all-requires
measure_all-requires c =
    let a = c.args in (
      c.requires.sound,
      ready a.blocks.now a.edges.now a.kinds.now a.touches.now a.ends.now a.areas _ _ c.requires (positive _ c.if-kinds-eq0.false) c.places-p.ensures c.grid-g.ensures c.mark.ensures c.rows.ensures,
    )

pub returns : goal.returns
returns c =
    let a = c.args in
    solved a.blocks.now a.edges.now a.kinds.now a.touches.now a.ends.now a.areas _ _ c.requires (positive _ c.if-kinds-eq0.false) c.places-p.ensures c.grid-g.ensures c.mark.ensures c.rows.ensures
    c.measure_all.ensures
