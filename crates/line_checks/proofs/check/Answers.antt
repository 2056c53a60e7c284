-- `check` meets its contract: the three checks in their order.
use Prim.Native.Nat.{ℕ}
use mathlib.Core.Path.{sym, ap, ◌∙◌}
use lib.ListN.{length}
use Rattle.refusals.proofs.Laws.{handed_on}
use Rattle.line_checks.proofs.Refusals.{counts, count_bad, line_bad, edge_last}
use Rattle.graph.proofs.Line.{blocks_length}
use Rattle.graph.specs.Line.{jumps_of, bad_edge}
use Rattle.refusals.specs.Verdicts.{scan}
use Rattle.refusals.specs.declared.Refusal.TheVariants.{Edge as EdgeWord}
use Rattle.line_checks.proofs.check.Goals as goal

pub returns-in_err-count : goal.returns-in_err-count
returns-in_err-count c =
    handed_on c.from_residual.ensures.1 ∙ count_bad c.args.blocks.now c.args.edges.now c.args.points _ _ (sym c.count.ensures ∙ c.in_err-count.was)

pub line-requires : goal.line-requires
line-requires c =
    (counts c.args.blocks.now c.args.edges.now (sym c.count.ensures ∙ c.in_ok-count.was)).few

pub returns-in_err-line : goal.returns-in_err-line
returns-in_err-line c =
    handed_on c.from_residual-in_err-line.ensures.1 ∙ line_bad c.args.blocks.now c.args.edges.now c.args.points _ _
    (sym c.count.ensures ∙ c.in_ok-count.was)
    (sym c.line.ensures ∙ c.in_err-line.was)

pub returns : goal.returns
returns c =
    edge_last c.args.blocks.now c.args.edges.now c.args.points _ (sym c.count.ensures
    ∙ c.in_ok-count.was) (sym c.line.ensures ∙ c.in_ok-line.was) (c.edge.ensures ∙ ap
    (λ (y : ℕ). scan EdgeWord (bad_edge y (jumps_of c.args.edges.now)) (length (jumps_of c.args.edges.now))) (sym (blocks_length c.args.blocks.now)))
