-- `plan_verdict` meets its contract, by what `shared` answers.
use Rattle.refusals.proofs.Laws.{handed_on}
use Rattle.text_plan.proofs.PlanLaws.{found_alike, bad_alike}
use Rattle.text_plan.proofs.plan_text.plan_verdict.Goals as goal

pub returns-in_err-shared : goal.returns-in_err-shared
returns-in_err-shared c =
    let a = c.args in
    rw (handed_on c.from_residual.ensures.1) (bad_alike a.cells.now a.items.now a.areas.now a.locals c.shared.ensures _ _ c.in_err-shared.was)

pub returns : goal.returns
returns c =
    let a = c.args in
    found_alike a.cells.now a.items.now a.areas.now a.locals c.shared.ensures _ c.in_ok-shared.was
