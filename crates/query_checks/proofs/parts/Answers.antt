-- `parts` meets its contract: one law for each way out.
use Rattle.query_checks.proofs.CheckLaws.{parts_count, parts_item, parts_surplus, parts_fine}
use native.Mathlib.Omega.{arith}
use mathlib.Core.Path.{sym, ◌∙◌}
use Rattle.query_checks.proofs.parts.Goals as goal
use Rattle.refusals.proofs.Laws.{handed_on}

pub returns-then-counts : goal.returns-then-counts
returns-then-counts c = let a = c.args in parts_count a.cells.now a.items.now a.areas.now a.locals (sym c.counts.ensures ∙ c.if-counts.true)

pub returns-in_err-items_within : goal.returns-in_err-items_within
returns-in_err-items_within c =
    rw (handed_on c.from_residual.ensures.1)
    (let a = c.args in
    parts_item a.cells.now a.items.now a.areas.now a.locals
    (sym c.counts.ensures ∙ c.if-counts.false) _ _
    (sym c.items_within.ensures ∙ c.in_err-items_within.was))

pub returns-then-items-cells : goal.returns-then-items-cells
returns-then-items-cells c =
    let a = c.args in
    parts_surplus a.cells.now a.items.now a.areas.now a.locals
    (sym c.counts.ensures ∙ c.if-counts.false)
    (sym c.items_within.ensures ∙ c.in_ok-items_within.was) (omega arith)

pub returns : goal.returns
returns c =
    let a = c.args in
    parts_fine a.cells.now a.items.now a.areas.now a.locals
    (sym c.counts.ensures ∙ c.if-counts.false)
    (sym c.items_within.ensures ∙ c.in_ok-items_within.was) (omega arith)
