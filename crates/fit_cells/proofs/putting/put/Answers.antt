-- `put` meets its contract, by its three ways out.
use Rattle.fit_cells.proofs.RunLaws.{stepped_none, stepped_miss, stepped_hit}
use Rattle.fit_cells.proofs.LinkLaws.{entered_topped}
use Rattle.fit_tables.proofs.MarkLaws.{sure_less}
use native.Mathlib.Omega.{arith}
use mathlib.Core.Path.{refl}
use Rattle.fit_tables.specs.Inner.{order_at}
use Rattle.fit_cells.proofs.BelowLaws.{linked_wide}
use Rattle.fit_cells.proofs.PutBounds.{item_proper, item_inside, met, at_item, at_cell}
use Rattle.fit_cells.proofs.putting.put.Goals as goal

pub overflow_mul-i : goal.overflow_mul-i
overflow_mul-i c =
    (at_item c.requires.0 c.well_formed.0.1).twice

pub overflow_add-i : goal.overflow_add-i
overflow_add-i c =
    (at_item c.requires.0 c.well_formed.0.1).orders

pub overflow_add-i-2 : goal.overflow_add-i-2
overflow_add-i-2 c =
    (at_item c.requires.0 c.well_formed.0.1).place.fits

pub offset_bounds-w-t : goal.offset_bounds-w-t
offset_bounds-w-t c =
    (at_item c.requires.0 c.well_formed.0.1).place.in_bytes

pub bounds-w-t : goal.bounds-w-t
bounds-w-t c =
    (at_item c.requires.0 c.well_formed.0.1).place.inside

pub overflow_add-x : goal.overflow_add-x
overflow_add-x c =
    (at_item c.requires.0 c.well_formed.0.1).area.fits

pub offset_bounds-w-t-2 : goal.offset_bounds-w-t-2
offset_bounds-w-t-2 c =
    (at_item c.requires.0 c.well_formed.0.1).area.in_bytes

pub bounds-w-t-2 : goal.bounds-w-t-2
bounds-w-t-2 c =
    (at_item c.requires.0 c.well_formed.0.1).area.inside

pub overflow_add-word : goal.overflow_add-word
overflow_add-word c =
    (at_item c.requires.0 c.well_formed.0.1).words

pub overflow_add-word-2 : goal.overflow_add-word-2
overflow_add-word-2 c =
    (at_item c.requires.0 c.well_formed.0.1).size.fits

pub offset_bounds-w-t-3 : goal.offset_bounds-w-t-3
offset_bounds-w-t-3 c =
    (at_item c.requires.0 c.well_formed.0.1).size.in_bytes

pub bounds-w-t-3 : goal.bounds-w-t-3
bounds-w-t-3 c =
    (at_item c.requires.0 c.well_formed.0.1).size.inside

pub enter-requires : goal.enter-requires
enter-requires c =
    (at_item c.requires.0 c.well_formed.0.1).opens

pub overflow_add-result : goal.overflow_add-result
overflow_add-result c =
    (at_item c.requires.0 c.well_formed.0.1).more

pub returns-then-x-lt1 : goal.returns-then-x-lt1
returns-then-x-lt1 c =
    stepped_none c.requires.0 (order_at c.args.w.now c.args.t c.args.k) refl c.if-x-lt1.true c.enter.ensures

pub shape_of-w-then-x-lt1 : goal.shape_of-w-then-x-lt1
shape_of-w-then-x-lt1 c = (returns-then-x-lt1 c).len

pub probe-c-requires : goal.probe-c-requires
probe-c-requires c = (
  linked_wide c.requires.0,
  omega (arith, c.least-most.ensures, c.requires.0.cells_le),
  (λ b h. c.requires.0.heads b (omega (arith, c.least-most.ensures))),
  omega (arith, item_inside c.requires.0 (omega arith)),
  (item_proper c.requires.0 (omega arith)).neat,
  sure_less c.requires.1 (omega (arith, c.least-most.ensures)),
)

pub overflow_mul-link : goal.overflow_mul-link
overflow_mul-link c =
    (at_cell c.requires.0 c.well_formed.0.1 _ (met c.requires.0 _ _ c.least-most.ensures c.probe-c.ensures.within)).thrice

pub overflow_add-link : goal.overflow_add-link
overflow_add-link c =
    (at_cell c.requires.0 c.well_formed.0.1 _ (met c.requires.0 _ _ c.least-most.ensures c.probe-c.ensures.within)).heads

pub overflow_add-link-then-c-most : goal.overflow_add-link-then-c-most
overflow_add-link-then-c-most c =
    (at_cell c.requires.0 c.well_formed.0.1 _ (met c.requires.0 _ _ c.least-most.ensures c.probe-c.ensures.within)).head.fits

pub offset_bounds-w-t-then-c-most : goal.offset_bounds-w-t-then-c-most
offset_bounds-w-t-then-c-most c =
    (at_cell c.requires.0 c.well_formed.0.1 _ (met c.requires.0 _ _ c.least-most.ensures c.probe-c.ensures.within)).head.in_bytes

pub bounds-w-t-then-c-most : goal.bounds-w-t-then-c-most
bounds-w-t-then-c-most c =
    (at_cell c.requires.0 c.well_formed.0.1 _ (met c.requires.0 _ _ c.least-most.ensures c.probe-c.ensures.within)).head.inside

pub overflow_mul-t : goal.overflow_mul-t
overflow_mul-t c =
    (at_cell c.requires.0 c.well_formed.0.1 _ (met c.requires.0 _ _ c.least-most.ensures c.probe-c.ensures.within)).five

pub overflow_add-t : goal.overflow_add-t
overflow_add-t c =
    (at_cell c.requires.0 c.well_formed.0.1 _ (met c.requires.0 _ _ c.least-most.ensures c.probe-c.ensures.within)).sizes

pub overflow_add-t-then-c-most : goal.overflow_add-t-then-c-most
overflow_add-t-then-c-most c =
    (at_cell c.requires.0 c.well_formed.0.1 _ (met c.requires.0 _ _ c.least-most.ensures c.probe-c.ensures.within)).size.fits

pub offset_bounds-w-t-then-c-most-2 : goal.offset_bounds-w-t-then-c-most-2
offset_bounds-w-t-then-c-most-2 c =
    (at_cell c.requires.0 c.well_formed.0.1 _ (met c.requires.0 _ _ c.least-most.ensures c.probe-c.ensures.within)).size.in_bytes

pub bounds-w-t-then-c-most-2 : goal.bounds-w-t-then-c-most-2
bounds-w-t-then-c-most-2 c =
    (at_cell c.requires.0 c.well_formed.0.1 _ (met c.requires.0 _ _ c.least-most.ensures c.probe-c.ensures.within)).size.inside

pub fold-top-requires : goal.fold-top-requires
fold-top-requires c =
    entered_topped c.requires.0 (order_at c.args.w.now c.args.t c.args.k) _ _ _ (c.requires.0.known c.args.k c.requires.0.k_lt)
    (met c.requires.0 _ _ c.least-most.ensures c.probe-c.ensures.within) (c.requires.0.heads _ (omega (arith, c.if-c-most.true, c.least-most.ensures))) c.enter-then-c-most.ensures

pub returns-then-c-most : goal.returns-then-c-most
returns-then-c-most c =
    stepped_hit c.requires.0 (order_at c.args.w.now c.args.t c.args.k) refl _ _ c.least-most.ensures c.if-x-lt1.false c.probe-c.ensures c.if-c-most.true _ c.wider-wide.ensures c.enter-then-c-most.ensures c.fold-top.ensures

pub shape_of-w-then-c-most : goal.shape_of-w-then-c-most
shape_of-w-then-c-most c = (returns-then-c-most c).len

pub enter-requires-2 : goal.enter-requires-2
enter-requires-2 c =
    (at_item c.requires.0 c.well_formed.0.1).opens

pub overflow_add-result-2 : goal.overflow_add-result-2
overflow_add-result-2 c =
    (at_item c.requires.0 c.well_formed.0.1).more

pub returns : goal.returns
returns c =
    stepped_miss c.requires.0 (order_at c.args.w.now c.args.t c.args.k) refl _ _ c.least-most.ensures c.if-x-lt1.false c.probe-c.ensures c.if-c-most.false c.enter-2.ensures

pub shape_of-w : goal.shape_of-w
shape_of-w c = (returns c).len
