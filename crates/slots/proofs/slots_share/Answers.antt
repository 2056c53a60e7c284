-- `slots::slots_share` meets its contract.
use Rattle.slots.proofs.slots_share.Goals as goal

pub returns : goal.returns
returns c = c.share.ensures
