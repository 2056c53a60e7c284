-- `refusal` meets its contract: the counts, the graph, the kinds, the touches, then the space.
use mathlib.Core.Path.{sym, ◌∙◌}
use Rattle.area_checks.proofs.CheckLaws.{small, by_counts, by_graph, by_rest}
use Rattle.area_checks.proofs.refusal.Goals as goal
use Rattle.refusals.proofs.Laws.{handed_on}

pub returns-in_err-counts : goal.returns-in_err-counts
returns-in_err-counts c =
    rw (handed_on c.from_residual.ensures.1)
    (let a = c.args in
    by_counts a.blocks.now a.edges.now a.points a.kinds.now a.touches.now a.ends a.areas a.items a.work _ _
    (sym c.counts.ensures ∙ c.in_err-counts.was))

pub returns-in_err-check : goal.returns-in_err-check
returns-in_err-check c =
    rw (handed_on c.from_residual-in_err-check.ensures.1)
    (let a = c.args in
    by_graph a.blocks.now a.edges.now a.points a.kinds.now a.touches.now a.ends a.areas a.items a.work
    (sym c.counts.ensures ∙ c.in_ok-counts.was) _ _
    (sym c.check.ensures ∙ c.in_err-check.was))

pub first_off_line-piece-requires : goal.first_off_line-piece-requires
first_off_line-piece-requires c =
    let a = c.args in
    (small a.blocks.now a.edges.now a.points a.kinds.now a.touches.now a.ends a.areas a.items a.work
    (sym c.counts.ensures ∙ c.in_ok-counts.was)
    (sym c.check.ensures ∙ c.in_ok-check.was)).some_block

pub short-space-requires : goal.short-space-requires
short-space-requires c =
    let a = c.args in
    small a.blocks.now a.edges.now a.points a.kinds.now a.touches.now a.ends a.areas a.items a.work
    (sym c.counts.ensures ∙ c.in_ok-counts.was)
    (sym c.check.ensures ∙ c.in_ok-check.was)

pub returns : goal.returns
returns c =
    let a = c.args in
    by_rest a.blocks.now a.edges.now a.points a.kinds.now a.touches.now a.ends a.areas a.items a.work
    (sym c.counts.ensures ∙ c.in_ok-counts.was)
    (sym c.check.ensures ∙ c.in_ok-check.was)
    c.known-kind.ensures c.first_off_line-piece.ensures c.short-space.ensures c.earlier.ensures c.earlier-2.ensures
