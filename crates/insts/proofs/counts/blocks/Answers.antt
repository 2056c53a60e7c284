-- `insts::counts::blocks` meets its contract: the two checks in their order.
use native.Mathlib.Omega.{arith}
use mathlib.Core.Path.{sym, ◌∙◌}
use Rattle.insts.proofs.CheckLaws.{no_rows, no_block, blocks_fine}
use Rattle.insts.proofs.counts.blocks.Goals as goal
use Rattle.refusals.proofs.Laws.{handed_on}

pub returns-in_err-rows : goal.returns-in_err-rows
returns-in_err-rows c =
    rw (handed_on c.from_residual.ensures.1)
    (no_rows (c.args.blocks.now) _ _ (sym c.rows.ensures ∙ c.in_err-rows.was))

pub returns-then-blocks-lt1 : goal.returns-then-blocks-lt1
returns-then-blocks-lt1 c = no_block (c.args.blocks.now) (sym c.rows.ensures ∙ c.in_ok-rows.was) (omega arith)

pub returns : goal.returns
returns c = blocks_fine (c.args.blocks.now) (sym c.rows.ensures ∙ c.in_ok-rows.was) (omega arith)
