-- `insts::counts::insts` meets its contract: the three checks in their order.
use mathlib.Core.Path.{sym, ◌∙◌}
use lib.ListN.{length}
use Rattle.insts.proofs.CheckLaws.{insts_bad, operands_bad, sum_last, rows_few}
use Rattle.words.specs.Widths.{inst_width}
use Rattle.insts.proofs.counts.insts.Goals as goal
use Rattle.refusals.proofs.Laws.{handed_on}

pub returns-in_err-rows : goal.returns-in_err-rows
returns-in_err-rows c =
    rw (handed_on c.from_residual.ensures.1)
    (insts_bad (c.args.insts.now) (c.args.operands.now) _ _ (sym c.rows.ensures ∙ c.in_err-rows.was))

pub returns-in_err-rows-2 : goal.returns-in_err-rows-2
returns-in_err-rows-2 c =
    rw (handed_on c.from_residual-in_err-rows-2.ensures.1)
    (operands_bad (c.args.insts.now) (c.args.operands.now) _ _
    (sym c.rows.ensures ∙ c.in_ok-rows.was)
    (sym c.rows-2.ensures ∙ c.in_err-rows-2.was))

pub add_up-requires : goal.add_up-requires
add_up-requires c = rows_few inst_width 65536 (length (c.args.insts.now)) (sym c.rows.ensures ∙ c.in_ok-rows.was)

pub returns : goal.returns
returns c =
    c.add_up.ensures ∙ sum_last (c.args.insts.now) (c.args.operands.now)
    (sym c.rows.ensures ∙ c.in_ok-rows.was)
    (sym c.rows-2.ensures ∙ c.in_ok-rows-2.was)
