-- `slot` meets its contract: refused, told or absent.
use Rattle.query_checks.specs.Checks.{plan_verdict}
use Rattle.fitting.specs.Queries.{slots_of, slot}
use Rattle.query_checks.proofs.CheckLaws.{sound}
use Rattle.queries.proofs.QueryLaws.{slot_at, slot_none, place_told, place_none, place_refused}
use mathlib.Core.List.{[]}
use native.Mathlib.Omega.{arith}
use mathlib.Core.Path.{sym, ◌∙◌}
use Rattle.queries.proofs.slot.Goals as goal
use Rattle.refusals.proofs.Laws.{handed_on}

pub returns-in_err-plan : goal.returns-in_err-plan
returns-in_err-plan c =
    rw (handed_on c.from_residual.ensures.1)
    (let a = c.args in
    place_refused (plan_verdict a.cells.now a.items.now a.locals) (slot (slots_of a.locals a.cells.now a.items.now []) a.i) _ _
    (sym c.plan.ensures ∙ c.in_err-plan.was))

pub returns-then-at-items : goal.returns-then-at-items
returns-then-at-items c =
    let a = c.args in
    place_told (plan_verdict a.cells.now a.items.now a.locals) (slot (slots_of a.locals a.cells.now a.items.now []) a.i) _ (sym c.plan.ensures
    ∙ c.in_ok-plan.was) (slot_at [] a.cells.now a.items.now a.locals
    (sound a.cells.now a.items.now a.locals (sym c.plan.ensures ∙ c.in_ok-plan.was)) a.i (omega arith))

pub returns : goal.returns
returns c =
    let a = c.args in
    place_none (plan_verdict a.cells.now a.items.now a.locals) (slot (slots_of a.locals a.cells.now a.items.now []) a.i) (sym c.plan.ensures
    ∙ c.in_ok-plan.was) (slot_none [] a.cells.now a.items.now a.locals
    (sound a.cells.now a.items.now a.locals (sym c.plan.ensures ∙ c.in_ok-plan.was)) a.i (omega arith))
