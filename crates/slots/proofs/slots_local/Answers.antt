-- `slots::slots_local` meets its contract.
use Rattle.slots.proofs.slots_local.Goals as goal

pub returns : goal.returns
returns c = c.local.ensures
