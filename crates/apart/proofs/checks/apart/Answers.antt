-- `apart` meets its contract: one law for each way out.
use Rattle.apart.proofs.ApartLaws.{apart_count_lem, apart_space_lem, apart_fine}
use mathlib.Core.Path.{sym, ◌∙◌}
use Rattle.apart.proofs.checks.apart.Goals as goal

pub returns-then-apart_count : goal.returns-then-apart_count
returns-then-apart_count c = let a = c.args in apart_count_lem a.locals.now a.slots.now a.cells a.items (sym c.apart_count.ensures ∙ c.if-apart_count.true)

pub returns-then-apart_space : goal.returns-then-apart_space
returns-then-apart_space c =
    let a = c.args in
    apart_space_lem a.locals.now a.slots.now a.cells a.items (sym c.apart_count.ensures ∙ c.if-apart_count.false)
    (sym c.apart_space.ensures ∙ c.if-apart_space.true)

pub returns : goal.returns
returns c = let a = c.args in apart_fine a.locals.now a.slots.now a.cells a.items (sym c.apart_count.ensures ∙ c.if-apart_count.false) (sym c.apart_space.ensures ∙ c.if-apart_space.false)
