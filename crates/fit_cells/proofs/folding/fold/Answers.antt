-- `fold` meets its contract: each turn unites two lists, and the link falls.
use Rattle.words.proofs.FitLaws.{as_long}
use Rattle.fit_cells.proofs.FoldLaws.{folded_none, folded_then}
use Rattle.fit_cells.proofs.FoldBounds.{own_place, next_place, meets}
use mathlib.Core.Path.{refl}
use Rattle.fit_cells.proofs.folding.fold.Goals as goal

pub overflow_mul-p : goal.overflow_mul-p
overflow_mul-p c =
    (own_place c.requires c.well_formed.0.1).four

pub overflow_add-p : goal.overflow_add-p
overflow_add-p c =
    (own_place c.requires c.well_formed.0.1).links

pub overflow_add-p-2 : goal.overflow_add-p-2
overflow_add-p-2 c =
    (own_place c.requires c.well_formed.0.1).link.fits

pub offset_bounds-w-t : goal.offset_bounds-w-t
offset_bounds-w-t c =
    (own_place c.requires c.well_formed.0.1).link.in_bytes

pub bounds-w-t : goal.bounds-w-t
bounds-w-t c =
    (own_place c.requires c.well_formed.0.1).link.inside

pub loop-p-init : goal.loop-p-init
loop-p-init c =
    (refl, folded_none c.requires)

pub overflow_mul-t : goal.overflow_mul-t
overflow_mul-t c =
    (own_place c.loop-p.invariant.1.topped (as_long _ _ c.loop-p.invariant.1.len c.well_formed.0.1)).seven

pub overflow_add-t : goal.overflow_add-t
overflow_add-t c =
    (own_place c.loop-p.invariant.1.topped (as_long _ _ c.loop-p.invariant.1.len c.well_formed.0.1)).lists

pub overflow_add-t-in-loop-p : goal.overflow_add-t-in-loop-p
overflow_add-t-in-loop-p c =
    (own_place c.loop-p.invariant.1.topped (as_long _ _ c.loop-p.invariant.1.len c.well_formed.0.1)).list.fits

pub offset_bounds-w-t-in-loop-p : goal.offset_bounds-w-t-in-loop-p
offset_bounds-w-t-in-loop-p c =
    (own_place c.loop-p.invariant.1.topped (as_long _ _ c.loop-p.invariant.1.len c.well_formed.0.1)).list.in_bytes

pub bounds-w-t-in-loop-p : goal.bounds-w-t-in-loop-p
bounds-w-t-in-loop-p c =
    (own_place c.loop-p.invariant.1.topped (as_long _ _ c.loop-p.invariant.1.len c.well_formed.0.1)).list.inside

pub overflow_mul-t-in-loop-p : goal.overflow_mul-t-in-loop-p
overflow_mul-t-in-loop-p c =
    (own_place c.loop-p.invariant.1.topped (as_long _ _ c.loop-p.invariant.1.len c.well_formed.0.1)).seven

pub overflow_add-t-in-loop-p-2 : goal.overflow_add-t-in-loop-p-2
overflow_add-t-in-loop-p-2 c =
    (own_place c.loop-p.invariant.1.topped (as_long _ _ c.loop-p.invariant.1.len c.well_formed.0.1)).lists

pub overflow_add-t-in-loop-p-3 : goal.overflow_add-t-in-loop-p-3
overflow_add-t-in-loop-p-3 c =
    (next_place c.loop-p.invariant.1.topped (as_long _ _ c.loop-p.invariant.1.len c.well_formed.0.1) _ c.loop-p.invariant.0 c.loop-p-test.true).list.fits

pub offset_bounds-w-t-in-loop-p-2 : goal.offset_bounds-w-t-in-loop-p-2
offset_bounds-w-t-in-loop-p-2 c =
    (next_place c.loop-p.invariant.1.topped (as_long _ _ c.loop-p.invariant.1.len c.well_formed.0.1) _ c.loop-p.invariant.0 c.loop-p-test.true).list.in_bytes

pub bounds-w-t-in-loop-p-2 : goal.bounds-w-t-in-loop-p-2
bounds-w-t-in-loop-p-2 c =
    (next_place c.loop-p.invariant.1.topped (as_long _ _ c.loop-p.invariant.1.len c.well_formed.0.1) _ c.loop-p.invariant.0 c.loop-p-test.true).list.inside

pub unite_top-e-requires : goal.unite_top-e-requires
unite_top-e-requires c =
    (c.loop-p.invariant.1.topped, meets c.loop-p.invariant.1.topped c.loop-p.invariant.0 c.loop-p-test.true c.together-need.ensures c.if-room-need.false)

pub overflow_mul-p-in-loop-p : goal.overflow_mul-p-in-loop-p
overflow_mul-p-in-loop-p c =
    (own_place c.unite_top-e.ensures.0.topped (as_long _ _ c.unite_top-e.ensures.0.len (as_long _ _ c.loop-p.invariant.1.len c.well_formed.0.1))).four

pub overflow_add-p-in-loop-p : goal.overflow_add-p-in-loop-p
overflow_add-p-in-loop-p c =
    (own_place c.unite_top-e.ensures.0.topped (as_long _ _ c.unite_top-e.ensures.0.len (as_long _ _ c.loop-p.invariant.1.len c.well_formed.0.1))).links

pub overflow_add-p-in-loop-p-2 : goal.overflow_add-p-in-loop-p-2
overflow_add-p-in-loop-p-2 c =
    (own_place c.unite_top-e.ensures.0.topped (as_long _ _ c.unite_top-e.ensures.0.len (as_long _ _ c.loop-p.invariant.1.len c.well_formed.0.1))).link.fits

pub offset_bounds-w-t-in-loop-p-3 : goal.offset_bounds-w-t-in-loop-p-3
offset_bounds-w-t-in-loop-p-3 c =
    (own_place c.unite_top-e.ensures.0.topped (as_long _ _ c.unite_top-e.ensures.0.len (as_long _ _ c.loop-p.invariant.1.len c.well_formed.0.1))).link.in_bytes

pub bounds-w-t-in-loop-p-3 : goal.bounds-w-t-in-loop-p-3
bounds-w-t-in-loop-p-3 c =
    (own_place c.unite_top-e.ensures.0.topped (as_long _ _ c.unite_top-e.ensures.0.len (as_long _ _ c.loop-p.invariant.1.len c.well_formed.0.1))).link.inside

pub loop-p-preserved : goal.loop-p-preserved
loop-p-preserved c =
    (refl, folded_then c.loop-p.invariant.1 c.unite_top-e.ensures.0)
