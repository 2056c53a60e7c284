-- `spilled_registers::counts` meets its contract: each check, the first that refuses.
use Rattle.spilled_registers.proofs.SpilledLaws.{counts_chain}
use Rattle.spilled_registers.proofs.counts.Goals as goal

pub returns : goal.returns
returns c =
    counts_chain c.args.v c.args.slots c.args.assigned.now c.most-a.ensures c.most-b.ensures
    c.rows-c.ensures c.earlier-c.ensures c.earlier.ensures
