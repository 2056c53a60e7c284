-- `job_checks::checks::placed` meets its contract: the checks in their order.
use mathlib.Core.Path.{sym, ◌∙◌}
use Rattle.job_checks.proofs.CheckLaws.{by_place, by_rest}
use Rattle.job_checks.proofs.checks.placed.Goals as goal
use Rattle.refusals.proofs.Laws.{handed_on}

pub located-requires : goal.located-requires
located-requires c = c.requires

pub returns-in_err-located : goal.returns-in_err-located
returns-in_err-located c =
    rw (handed_on c.from_residual.ensures.1)
    (let a = c.args in
    by_place a.points a.v a.blocks.now a.edges.now a.insts.now a.operands.now a.crossings.now a.addresses.now a.ends.now a.pieces.now a.assigned.now a.moves.now _ _
    (sym c.located.ensures ∙ c.in_err-located.was))

pub crossing-crossed-requires : goal.crossing-crossed-requires
crossing-crossed-requires c = c.requires.3

pub live-outside-requires : goal.live-outside-requires
live-outside-requires c = c.requires.0

pub returns : goal.returns
returns c =
    let a = c.args in
    by_rest a.points a.v a.blocks.now a.edges.now a.insts.now a.operands.now a.crossings.now a.addresses.now a.ends.now a.pieces.now a.assigned.now a.moves.now
    (sym c.located.ensures ∙ c.in_ok-located.was) c.crossing-crossed.ensures c.stray-astray.ensures c.live-outside.ensures c.earlier.ensures c.earlier-2.ensures
