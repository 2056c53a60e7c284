-- `print_plan` meets its contract: refused, too long, or written.
use native.Mathlib.Omega.{arith}
use Rattle.text_plan.proofs.PlanLaws.{alike_fine, plan_refused, plan_long, plan_written}
use Rattle.text_plan.proofs.PutLaws.{puts_length}
use Rattle.text_plan.proofs.plan_text.print_plan.Goals as goal
use Rattle.refusals.proofs.Laws.{handed_on}

pub returns-in_err-plan_verdict : goal.returns-in_err-plan_verdict
returns-in_err-plan_verdict c =
    rw (handed_on c.from_residual.ensures.1)
    (let a = c.args in
    plan_refused a.cells.now a.items.now a.areas.now a.locals a.probes a.depth a.out.now _ _ _ c.plan_verdict.ensures c.in_err-plan_verdict.was)

pub put_plan-n-requires : goal.put_plan-n-requires
put_plan-n-requires c = (alike_fine _ _ c.plan_verdict.ensures c.in_ok-plan_verdict.was)

pub returns-then-out-n : goal.returns-then-out-n
returns-then-out-n c =
    let a = c.args in
    plan_long a.cells.now a.items.now a.areas.now a.locals a.probes a.depth a.out.now
    (alike_fine _ _ c.plan_verdict.ensures c.in_ok-plan_verdict.was) c.put_plan-n.ensures c.if-out-n.true

pub put_plan-requires : goal.put_plan-requires
put_plan-requires c = (alike_fine _ _ c.plan_verdict.ensures c.in_ok-plan_verdict.was)

pub shape_of-out : goal.shape_of-out
shape_of-out c = puts_length c.put_plan.ensures

pub returns : goal.returns
returns c =
    let a = c.args in
    plan_written a.cells.now a.items.now a.areas.now a.locals a.probes a.depth a.out.now
    (alike_fine _ _ c.plan_verdict.ensures c.in_ok-plan_verdict.was) c.put_plan-n.ensures (omega arith) c.put_plan.ensures
