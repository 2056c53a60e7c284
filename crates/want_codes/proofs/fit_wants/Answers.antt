-- `fit_wants` meets its contract: one law for each way out.
use native.Mathlib.Omega.{arith}
use mathlib.Core.Path.{sym, ◌∙◌}
use Rattle.want_codes.proofs.PlanLaws.{plan_coded, few_count, few_space}
use Rattle.want_codes.proofs.fit_wants.Goals as goal

pub returns-then-bad_count : goal.returns-then-bad_count
returns-then-bad_count c =
    few_count c.args.wants.now c.args.areas.now c.args.locals c.args.budget c.args.cells.now c.args.items.now c.args.offsets.now c.args.counts.now c.args.work.now (omega arith)
    (sym c.bad_count.ensures ∙ c.if-bad_count.true) c.refused.ensures

pub returns-then-counts-lt3 : goal.returns-then-counts-lt3
returns-then-counts-lt3 c =
    few_space c.args.wants.now c.args.areas.now c.args.locals c.args.budget c.args.cells.now c.args.items.now c.args.offsets.now c.args.counts.now c.args.work.now (omega arith)
    (sym c.bad_count.ensures ∙ c.if-bad_count.false) c.refused-then-counts-lt3.ensures

pub plan-requires : goal.plan-requires
plan-requires c = omega arith

pub returns : goal.returns
returns c =
    plan_coded c.args.wants.now c.args.areas.now c.args.locals c.args.budget c.args.cells.now c.args.items.now c.args.offsets.now c.args.counts.now c.args.work.now c.if-counts-lt3.false c.fit_wants.ensures
    c.plan.ensures
