-- `components::refusal` meets its contract: the graph, then the space.
use native.Mathlib.Omega.{arith}
use mathlib.Core.Path.{sym, ◌∙◌}
use Rattle.components.proofs.Entries.{graph_bad, space_last}
use Rattle.line_checks.proofs.Refusals.{passed}
use Rattle.components.proofs.refusal.Goals as goal
use Rattle.refusals.proofs.Laws.{handed_on}

pub returns-in_err-check : goal.returns-in_err-check
returns-in_err-check c =
    rw (handed_on c.from_residual.ensures.1)
    (graph_bad c.args.blocks.now c.args.edges.now c.args.points c.args.answer c.args.work _ _
    (sym c.check.ensures ∙ c.in_err-check.was))

pub space-requires : goal.space-requires
space-requires c =
    let k = (passed c.args.blocks.now c.args.edges.now c.args.points (sym c.check.ensures ∙ c.in_ok-check.was)).counts in
    omega (arith, k.few, k.few_edges)

pub returns : goal.returns
returns c =
    space_last c.args.blocks.now c.args.edges.now c.args.points c.args.answer c.args.work _
    (sym c.check.ensures ∙ c.in_ok-check.was) c.space.ensures
