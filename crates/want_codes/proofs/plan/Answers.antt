-- `plan` meets its contract.
use mathlib.Core.Path.{ap}
use Rattle.want_codes.proofs.PlanLaws.{plan_told, plan_refused}
use Rattle.want_codes.proofs.plan.Goals as goal
use Rattle.refusals.specs.Outcomes.{answered}

pub returns-in-Ok : goal.returns-in-Ok
returns-in-Ok c = plan_told (ap answered c.in-Ok.is) c.tell.ensures

pub returns-in-Err : goal.returns-in-Err
returns-in-Err c = plan_refused (ap answered c.in-Err.is) c.refused.ensures
