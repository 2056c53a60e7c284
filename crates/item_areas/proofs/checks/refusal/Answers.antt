-- `refusal` meets its contract: the entry's own check, the counts, the records, then the space.
use mathlib.Core.Path.{sym, subst, ◌∙◌}
use Rattle.job_space.specs.Rows.{Rows}
use Rattle.job_space.specs.Inner.{rows_at}
use Rattle.job_space.specs.Space.{Small}
use Rattle.job_checks.proofs.CheckLaws.{told}
use Rattle.item_areas.proofs.CheckLaws.{by_whole, by_counts, by_placed, by_space}
use Rattle.item_areas.proofs.checks.refusal.Goals as goal
use Rattle.item_areas.proofs.checks.refusal.Goals.{Start}
use Rattle.refusals.proofs.Laws.{handed_on}

-- the rows that were lent
abbrev lent_rows : Start → Rows
lent_rows c = let a = c.args in rows_at a.points a.v a.blocks a.edges a.insts a.operands a.crossings a.locals a.slots a.addresses a.ends a.pieces a.assigned a.moves

pub returns-in_err-rows : goal.returns-in_err-rows
returns-in_err-rows c =
    rw (handed_on c.from_residual.ensures.1)
    (let rows = lent_rows (goal.at.returns-in_err-rows c).Start in
    by_whole rows c.args.areas c.args.items c.args.work _ _ (sym c.rows.ensures ∙ c.in_err-rows.was))

pub returns-in_err-counts : goal.returns-in_err-counts
returns-in_err-counts c =
    rw (handed_on c.from_residual-in_err-counts.ensures.1)
    (let rows = lent_rows (goal.at.returns-in_err-counts c).Start in
    by_counts rows c.args.areas c.args.items c.args.work _ _
    (sym c.rows.ensures ∙ c.in_ok-rows.was) (sym (c.counts.ensures c.args.points) ∙ c.in_err-counts.was))

pub placed-requires : goal.placed-requires
placed-requires c =
    let rows = lent_rows (goal.at.placed-requires c).Start in
    let k = (told rows c.args.areas (sym (c.counts.ensures c.args.points) ∙ c.in_ok-counts.was)).carried in
    (k.some, k.few, k.adds, k.registers)

pub returns-in_err-placed : goal.returns-in_err-placed
returns-in_err-placed c =
    rw (handed_on c.from_residual-in_err-placed.ensures.1)
    (let rows = lent_rows (goal.at.returns-in_err-placed c).Start in
    by_placed rows c.args.areas c.args.items c.args.work _ _
    (sym c.rows.ensures ∙ c.in_ok-rows.was) (sym (c.counts.ensures c.args.points) ∙ c.in_ok-counts.was) (sym c.placed.ensures ∙ c.in_err-placed.was))

pub short-requires : goal.short-requires
short-requires c =
    let rows = lent_rows (goal.at.short-requires c).Start in
    subst Small (sym (c.sizes-z.ensures c.args.points)) (told rows c.args.areas (sym (c.counts.ensures c.args.points) ∙ c.in_ok-counts.was)).small

pub returns : goal.returns
returns c =
    let rows = lent_rows (goal.at.returns c).Start in
    by_space rows c.args.areas c.args.items c.args.work _
    (sym c.rows.ensures ∙ c.in_ok-rows.was) (sym (c.counts.ensures c.args.points) ∙ c.in_ok-counts.was) (sym c.placed.ensures ∙ c.in_ok-placed.was) (c.sizes-z.ensures c.args.points) c.short.ensures
