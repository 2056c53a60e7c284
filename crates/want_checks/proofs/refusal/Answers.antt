-- `refusal` meets its contract: one law for each way out.
use Rattle.want_checks.proofs.CheckLaws.{verdict_count, verdict_space, verdict_wants, count_fine}
use mathlib.Core.Path.{sym, ◌∙◌}
use Rattle.want_checks.proofs.refusal.Goals as goal

pub returns-then-bad_count : goal.returns-then-bad_count
returns-then-bad_count c = let a = c.args in verdict_count a.wants.now a.areas.now a.locals a.budget a.cells a.items a.offsets a.work (sym c.bad_count.ensures ∙ c.if-bad_count.true)

pub bad_space-requires : goal.bad_space-requires
bad_space-requires c = let a = c.args in count_fine a.wants.now a.areas.now a.locals a.budget a.cells a.items (sym c.bad_count.ensures ∙ c.if-bad_count.false)

pub returns-then-bad_space : goal.returns-then-bad_space
returns-then-bad_space c =
    let a = c.args in
    verdict_space a.wants.now a.areas.now a.locals a.budget a.cells a.items a.offsets a.work
    (sym c.bad_count.ensures ∙ c.if-bad_count.false) (sym c.bad_space.ensures ∙ c.if-bad_space.true)

pub returns : goal.returns
returns c =
    let a = c.args in
    c.bad_wants.ensures ∙ verdict_wants a.wants.now a.areas.now a.locals a.budget a.cells a.items a.offsets a.work
    (sym c.bad_count.ensures ∙ c.if-bad_count.false) (sym c.bad_space.ensures ∙ c.if-bad_space.false)
