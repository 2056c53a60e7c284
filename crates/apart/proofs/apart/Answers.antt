-- `apart` meets its contract: refused, or a cell for each item.
use Rattle.apart.proofs.ApartLaws.{apart_refused, apart_passed, apart_told}
use mathlib.Core.Path.{sym, ◌∙◌}
use lib.ListN.{length}
use Rattle.apart.proofs.apart.Goals as goal
use Rattle.refusals.proofs.Laws.{handed_on}

pub returns-in_err-apart : goal.returns-in_err-apart
returns-in_err-apart c =
    rw (handed_on c.from_residual.ensures.1)
    (let a = c.args in apart_refused a.locals.now a.slots.now a.cells.now a.items.now _ _ (sym c.apart.ensures ∙ c.in_err-apart.was))

pub own_cells-requires : goal.own_cells-requires
own_cells-requires c =
    let a = c.args in
    let s = apart_passed a.locals.now a.slots.now (length a.cells.now) (length a.items.now)
    (sym c.apart.ensures ∙ c.in_ok-apart.was) in
    (s.in_cells, s.few)

pub own_items-requires : goal.own_items-requires
own_items-requires c =
    let a = c.args in
    let s = apart_passed a.locals.now a.slots.now (length a.cells.now) (length a.items.now)
    (sym c.apart.ensures ∙ c.in_ok-apart.was) in
    (s.in_items, s.few)

pub returns : goal.returns
returns c =
    let a = c.args in
    apart_told a.locals.now a.slots.now a.cells.now a.items.now _ _ (sym
    c.apart.ensures ∙
    c.in_ok-apart.was) c.own_cells.ensures
    c.own_items.ensures
