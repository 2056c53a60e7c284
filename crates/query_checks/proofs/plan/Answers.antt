-- `plan` meets its contract: one law for each way out.
use Rattle.query_checks.proofs.CheckLaws.{plan_count, plan_item, plan_surplus, plan_fine}
use native.Mathlib.Omega.{arith}
use mathlib.Core.Path.{sym, ◌∙◌}
use Rattle.query_checks.proofs.plan.Goals as goal
use Rattle.refusals.proofs.Laws.{handed_on}

pub returns-then-bad_count : goal.returns-then-bad_count
returns-then-bad_count c = let a = c.args in plan_count a.cells.now a.items.now a.locals (sym c.bad_count.ensures ∙ c.if-bad_count.true)

pub returns-in_err-items_named : goal.returns-in_err-items_named
returns-in_err-items_named c =
    rw (handed_on c.from_residual.ensures.1)
    (let a = c.args in
    plan_item a.cells.now a.items.now a.locals (sym c.bad_count.ensures ∙ c.if-bad_count.false) _ _
    (sym c.items_named.ensures ∙ c.in_err-items_named.was))

pub returns-then-items-cells : goal.returns-then-items-cells
returns-then-items-cells c =
    let a = c.args in
    plan_surplus a.cells.now a.items.now a.locals (sym c.bad_count.ensures ∙ c.if-bad_count.false)
    (sym c.items_named.ensures ∙ c.in_ok-items_named.was) (omega arith)

pub returns : goal.returns
returns c =
    let a = c.args in
    plan_fine a.cells.now a.items.now a.locals (sym c.bad_count.ensures ∙ c.if-bad_count.false)
    (sym c.items_named.ensures ∙ c.in_ok-items_named.was) (omega arith)
