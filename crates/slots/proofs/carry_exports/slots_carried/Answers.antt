-- `slots::slots_carried` meets its contract.
use Rattle.slots.proofs.carry_exports.slots_carried.Goals as goal

pub returns : goal.returns
returns c =
    record { told = c.carried.result; answer = c.found.ensures; holds = c.carried.ensures }
