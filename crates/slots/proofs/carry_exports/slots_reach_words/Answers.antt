-- `slots::slots_reach_words` meets its contract.
use Rattle.slots.proofs.carry_exports.slots_reach_words.Goals as goal

pub returns : goal.returns
returns c = c.words.ensures
