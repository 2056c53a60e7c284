-- `plan` meets its contract: the plan's rows are printed, or its refusal.
use native.Mathlib.Omega.{arith}
use mathlib.Core.Path.{refl}
use Rattle.planning.proofs.AnswerLaws.{printed_as, plan_told, sum_is, plan_refused, cells_in, print_ready, plan_printed}
use Rattle.planning.proofs.plan.Goals as goal

pub held-requires : goal.held-requires
held-requires c = (c.requires.1, c.requires.2, omega arith)

pub held-requires-2 : goal.held-requires-2
held-requires-2 c = (c.requires.1, c.requires.2, omega arith)

pub planned-r-requires : goal.planned-r-requires
planned-r-requires c =
    (c.requires.0, c.requires.1, c.requires.2)

pub overflow_mul-t : goal.overflow_mul-t
overflow_mul-t c =
    let a = c.args in
    let p = c.requires in
    let k = cells_in a.rows.now a.counts.now p.0 p.2 _ _ _ _ _ _ _ _ _ _ _ c.planned-r.ensures refl refl refl refl refl _ _ _ c.in-Ok.is in
    omega arith

pub slice_bounds-print_plan-end : goal.slice_bounds-print_plan-end
slice_bounds-print_plan-end c =
    let a = c.args in
    let p = c.requires in
    let k = cells_in a.rows.now a.counts.now p.0 p.2 _ _ _ _ _ _ _ _ _ _ _ c.planned-r.ensures refl refl refl refl refl _ _ _ c.in-Ok.is in
    omega arith

pub returns-in-Ok : goal.returns-in-Ok
returns-in-Ok c =
    let a = c.args in
    let p = c.requires in
    printed_as
    (plan_printed a.rows.now a.counts.now p.0 p.2 _ _ _ _ _ _ _ _ _ _ _ c.planned-r.ensures refl refl refl refl refl _ _ _ c.in-Ok.is _
    (sum_is c.held.ensures.0 c.held-2.ensures.0) c.planned-r.auto.areas)
    (plan_told _ _ _ _ _ _
    (print_ready a.rows.now a.counts.now p.0 p.2 _ _ _ _ _ _ _ _ _ _ _ c.planned-r.ensures refl refl refl refl refl _ _ _ c.in-Ok.is _
    (sum_is c.held.ensures.0 c.held-2.ensures.0) c.planned-r.auto.areas) c.print_plan.ensures)

pub returns-in-Err : goal.returns-in-Err
returns-in-Err c =
    let a = c.args in
    let p = c.requires in
    printed_as (plan_refused a.rows.now a.counts.now p.0 p.2 _ _ _ _ _ _ _ _ _ _ _ c.planned-r.ensures refl refl refl refl refl _ _ c.in-Err.is)
    c.refuse.ensures
