-- `slots::slots_spilled` meets its contract.
use Rattle.slots.proofs.carry_exports.slots_spilled.Goals as goal

pub returns : goal.returns
returns c =
    record { told = c.spilled.result; answer = c.answer.ensures; holds = c.spilled.ensures }
