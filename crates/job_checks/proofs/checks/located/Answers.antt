-- `job_checks::checks::located` meets its contract: the checks in their order.
use mathlib.Core.Path.{sym, ◌∙◌}
use Rattle.job_checks.proofs.CheckLaws.{by_line, by_edge, some_sound}
use Rattle.job_checks.proofs.checks.located.Goals as goal
use Rattle.refusals.proofs.Laws.{handed_on}

pub line-requires : goal.line-requires
line-requires c = c.requires.1

pub returns-in_err-line : goal.returns-in_err-line
returns-in_err-line c =
    rw (handed_on c.from_residual.ensures.1)
    (by_line c.args.points c.args.v c.args.blocks.now c.args.edges.now c.args.insts.now c.args.operands.now _ _
    (sym c.line.ensures ∙ c.in_err-line.was))

pub inst-b-requires : goal.inst-b-requires
inst-b-requires c =
    (some_sound c.args.blocks.now c.args.points c.requires.0 (sym c.line.ensures ∙ c.in_ok-line.was), c.requires.2, c.requires.3)

pub returns : goal.returns
returns c =
    by_edge c.args.points c.args.v c.args.blocks.now c.args.edges.now c.args.insts.now c.args.operands.now
    (sym c.line.ensures ∙ c.in_ok-line.was) c.edge-a.ensures c.inst-b.ensures
    c.earlier.ensures
