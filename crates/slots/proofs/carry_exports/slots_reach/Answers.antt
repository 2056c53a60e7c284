-- `slots::slots_reach` meets its contract.
use Rattle.slots.proofs.carry_exports.slots_reach.Goals as goal

pub returns : goal.returns
returns c =
    record { told = c.reach.result; answer = c.answer.ensures; holds = c.reach.ensures }
