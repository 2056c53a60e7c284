-- `slots::slots_fit_wants` meets its contract.
use Rattle.slots.proofs.slots_fit_wants.Goals as goal

pub returns : goal.returns
returns c = c.fit_wants.ensures
