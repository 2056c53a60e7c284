-- `fit_wants` meets its contract: refused, or answered.
use Rattle.wants.specs.Entry.{plan_for}
use Rattle.want_checks.specs.Checks.{verdict}
use Rattle.want_checks.proofs.CheckLaws.{granted}
use Rattle.wants.proofs.EntryLaws.{refused_alone, answered_alone}
use mathlib.Core.Path.{sym, ◌∙◌}
use lib.ListN.{length}
use Rattle.wants.proofs.fit_wants.Goals as goal
use Rattle.refusals.proofs.Laws.{handed_on}

pub returns-in_err-refusal : goal.returns-in_err-refusal
returns-in_err-refusal c =
    rw (handed_on c.from_residual.ensures.1)
    (let a = c.args in
    refused_alone _ _ (verdict a.wants.now a.areas.now a.locals a.terms.budget (length a.cells.now) (length a.items.now) (length a.offsets.now) (length a.work.now)) (plan_for a.wants.now a.areas.now a.terms.budget) _ _ _ _ _ _ (sym c.refusal.ensures ∙ c.in_err-refusal.was))

pub answer-requires : goal.answer-requires
answer-requires c =
    let a = c.args in
    granted a.wants.now a.areas.now a.locals a.terms.budget (length a.cells.now) (length a.items.now) (length a.offsets.now) (length a.work.now)
    (sym c.refusal.ensures ∙ c.in_ok-refusal.was)

pub returns : goal.returns
returns c =
    let a = c.args in
    answered_alone (verdict a.wants.now a.areas.now a.locals a.terms.budget (length a.cells.now) (length a.items.now) (length a.offsets.now) (length a.work.now)) (sym c.refusal.ensures ∙ c.in_ok-refusal.was) c.answer.ensures
