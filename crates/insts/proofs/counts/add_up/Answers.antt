-- `insts::counts::add_up` meets its contract: the counts add up, or not.
use mathlib.Core.Path.{sym, ◌∙◌}
use Rattle.insts.proofs.CheckLaws.{sum_off, sum_fine}
use Rattle.insts.proofs.counts.add_up.Goals as goal

pub returns-then-operand_sum-n : goal.returns-then-operand_sum-n
returns-then-operand_sum-n c =
    sum_off (c.args.insts.now) (c.args.operands.now) (λ q. c.if-operand_sum-n.true (c.operand_sum.ensures ∙ q))

pub returns : goal.returns
returns c =
    sum_fine (c.args.insts.now) (c.args.operands.now) (sym c.operand_sum.ensures ∙ c.if-operand_sum-n.false)
