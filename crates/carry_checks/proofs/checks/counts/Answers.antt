-- `carry_checks::checks::counts` meets its contract: the checks in their order.
use Rattle.carry_checks.proofs.CheckLaws.{counts_chain}
use Rattle.carry_checks.proofs.checks.counts.Goals as goal

pub returns : goal.returns
returns c =
    counts_chain c.args.v c.args.blocks.now c.args.insts.now c.args.operands.now c.args.crossings.now c.args.locals.now c.args.addresses.now
    c.args.ends.now c.blocks-a.ensures c.code-b.ensures c.earlier.ensures
