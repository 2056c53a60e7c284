-- `slots::slots_slot` meets its contract.
use Rattle.slots.proofs.slots_slot.Goals as goal

pub returns : goal.returns
returns c = c.slot.ensures
