-- `flow::refusal` meets its contract: the rows, the graph, then the space.
use native.Mathlib.Omega.{arith}
use mathlib.Core.Path.{sym, ◌∙◌}
use Rattle.flow.proofs.Entries.{rows_refused, graph_refused, space_last}
use Rattle.line_checks.proofs.Refusals.{passed}
use Rattle.flow.proofs.refusal.Goals as goal
use Rattle.refusals.proofs.Laws.{handed_on}

pub returns-in_err-rows : goal.returns-in_err-rows
returns-in_err-rows c =
    rw (handed_on c.from_residual.ensures.1)
    (rows_refused c.args.blocks.now c.args.edges.now c.args.points c.args.lent c.args.words c.args.answer c.args.work _ _
    (sym c.rows.ensures ∙ c.in_err-rows.was))

pub returns-in_err-check : goal.returns-in_err-check
returns-in_err-check c =
    rw (handed_on c.from_residual-in_err-check.ensures.1)
    (graph_refused c.args.blocks.now c.args.edges.now c.args.points c.args.lent c.args.words c.args.answer c.args.work _ _
    (sym c.rows.ensures ∙ c.in_ok-rows.was)
    (sym c.check.ensures ∙ c.in_err-check.was))

pub space-requires : goal.space-requires
space-requires c =
    let k = (passed c.args.blocks.now c.args.edges.now c.args.points (sym c.check.ensures ∙ c.in_ok-check.was)).counts in
    omega (arith, k.few, k.few_edges)

pub returns : goal.returns
returns c =
    space_last c.args.blocks.now c.args.edges.now c.args.points c.args.lent c.args.words c.args.answer c.args.work _
    (sym c.rows.ensures ∙ c.in_ok-rows.was)
    (sym c.check.ensures ∙ c.in_ok-check.was) c.space.ensures
