-- `saved` meets its contract: refused, or items less cells.
use Rattle.query_checks.specs.Checks.{plan_verdict}
use Rattle.fitting.specs.Queries.{slots_of, saved}
use Rattle.query_checks.proofs.CheckLaws.{sound}
use Rattle.queries.proofs.QueryLaws.{saved_is, saved_told, saved_refused}
use mathlib.Core.List.{[]}
use native.Mathlib.Omega.{arith}
use mathlib.Core.Path.{sym, ◌∙◌}
use Rattle.queries.proofs.saved.Goals as goal
use Rattle.refusals.proofs.Laws.{handed_on}

pub returns-in_err-plan : goal.returns-in_err-plan
returns-in_err-plan c =
    rw (handed_on c.from_residual.ensures.1)
    (let a = c.args in
    saved_refused (plan_verdict a.cells.now a.items.now a.locals) (saved (slots_of a.locals a.cells.now a.items.now [])) _ _
    (sym c.plan.ensures ∙ c.in_err-plan.was))

pub overflow_sub-result : goal.overflow_sub-result
overflow_sub-result c = let a = c.args in omega (arith, (sound a.cells.now a.items.now a.locals (sym c.plan.ensures ∙ c.in_ok-plan.was)).enough)

pub returns : goal.returns
returns c =
    let a = c.args in
    saved_told (plan_verdict a.cells.now a.items.now a.locals) _ (saved (slots_of a.locals a.cells.now a.items.now []))
    (sym c.plan.ensures ∙ c.in_ok-plan.was)
    (sym (saved_is [] a.cells.now a.items.now a.locals (sound a.cells.now a.items.now a.locals (sym c.plan.ensures ∙ c.in_ok-plan.was))))
