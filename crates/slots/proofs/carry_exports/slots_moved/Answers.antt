-- `slots::slots_moved` meets its contract.
use Rattle.slots.proofs.carry_exports.slots_moved.Goals as goal

pub returns : goal.returns
returns c =
    record { told = c.moved.result; answer = c.answer.ensures; holds = c.moved.ensures }
