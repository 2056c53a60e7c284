-- `unite_top` meets its contract: the union is stored behind the lists, and takes the place of the two.
use mathlib.Core.Logic.{inl}
use Rattle.fit_cells.proofs.FoldLaws.{one_end, two_end, one_listed, two_listed, folded, next_falls}
use Rattle.fit_cells.proofs.FoldBounds.{own_place, met_place, as_long}
use native.Mathlib.Omega.{arith}
use Rattle.fit_cells.proofs.folding.unite_top.Goals as goal

pub overflow_mul-y : goal.overflow_mul-y
overflow_mul-y c =
    (own_place c.requires.0 c.well_formed.0.1).seven

pub overflow_add-y : goal.overflow_add-y
overflow_add-y c =
    (own_place c.requires.0 c.well_formed.0.1).lists

pub overflow_add-y-2 : goal.overflow_add-y-2
overflow_add-y-2 c =
    (own_place c.requires.0 c.well_formed.0.1).list.fits

pub offset_bounds-w-t : goal.offset_bounds-w-t
offset_bounds-w-t c =
    (own_place c.requires.0 c.well_formed.0.1).list.in_bytes

pub bounds-w-t : goal.bounds-w-t
bounds-w-t c =
    (own_place c.requires.0 c.well_formed.0.1).list.inside

pub overflow_mul-z : goal.overflow_mul-z
overflow_mul-z c =
    (own_place c.requires.0 c.well_formed.0.1).seven

pub overflow_add-z : goal.overflow_add-z
overflow_add-z c =
    (own_place c.requires.0 c.well_formed.0.1).lists

pub overflow_add-z-2 : goal.overflow_add-z-2
overflow_add-z-2 c =
    (met_place c.requires.0 c.well_formed.0.1 _ c.requires.1).list.fits

pub offset_bounds-w-t-2 : goal.offset_bounds-w-t-2
offset_bounds-w-t-2 c =
    (met_place c.requires.0 c.well_formed.0.1 _ c.requires.1).list.in_bytes

pub bounds-w-t-2 : goal.bounds-w-t-2
bounds-w-t-2 c =
    (met_place c.requires.0 c.well_formed.0.1 _ c.requires.1).list.inside

pub overflow_mul-next : goal.overflow_mul-next
overflow_mul-next c =
    (own_place c.requires.0 c.well_formed.0.1).four

pub overflow_add-next : goal.overflow_add-next
overflow_add-next c =
    (own_place c.requires.0 c.well_formed.0.1).links

pub overflow_add-next-2 : goal.overflow_add-next-2
overflow_add-next-2 c =
    (met_place c.requires.0 c.well_formed.0.1 _ c.requires.1).link.fits

pub offset_bounds-w-t-3 : goal.offset_bounds-w-t-3
offset_bounds-w-t-3 c =
    (met_place c.requires.0 c.well_formed.0.1 _ c.requires.1).link.in_bytes

pub bounds-w-t-3 : goal.bounds-w-t-3
bounds-w-t-3 c =
    (met_place c.requires.0 c.well_formed.0.1 _ c.requires.1).link.inside

pub unite-r-requires : goal.unite-r-requires
unite-r-requires c =
    let T = c.requires.0 in
    let M = c.requires.1 in (
      omega (arith, one_end T M, T.linked.top_le),
      omega (arith, two_end T M, T.linked.top_le),
      omega (arith, M.room, T.end_le),
      inl (omega (arith, one_end T M)),
      inl (omega (arith, two_end T M)),
      (one_listed T M).neat,
      (two_listed T M).neat,
    )

pub overflow_mul-w-2 : goal.overflow_mul-w-2
overflow_mul-w-2 c =
    (own_place c.requires.0 c.well_formed.0.1).seven

pub overflow_add-w-3 : goal.overflow_add-w-3
overflow_add-w-3 c =
    (own_place c.requires.0 c.well_formed.0.1).lists

pub overflow_add-w-4 : goal.overflow_add-w-4
overflow_add-w-4 c =
    (own_place c.requires.0 c.well_formed.0.1).list.fits

pub offset_bounds-w-t-4 : goal.offset_bounds-w-t-4
offset_bounds-w-t-4 c =
    (own_place c.requires.0 c.well_formed.0.1).list.in_bytes

pub bounds-w-t-4 : goal.bounds-w-t-4
bounds-w-t-4 c =
    (as_long c.unite-r.auto.w (own_place c.requires.0 c.well_formed.0.1)).list.inside

pub overflow_mul-w-3 : goal.overflow_mul-w-3
overflow_mul-w-3 c =
    (own_place c.requires.0 c.well_formed.0.1).four

pub overflow_add-w-5 : goal.overflow_add-w-5
overflow_add-w-5 c =
    (own_place c.requires.0 c.well_formed.0.1).links

pub overflow_add-w-6 : goal.overflow_add-w-6
overflow_add-w-6 c =
    (own_place c.requires.0 c.well_formed.0.1).link.fits

pub offset_bounds-w-t-5 : goal.offset_bounds-w-t-5
offset_bounds-w-t-5 c =
    (own_place c.requires.0 c.well_formed.0.1).link.in_bytes

pub returns : goal.returns
returns c =
    (folded c.requires.0 c.requires.1 c.unite-r.auto.w c.unite-r.ensures, next_falls c.requires.0 c.requires.1 c.unite-r.auto.w c.unite-r.ensures)
