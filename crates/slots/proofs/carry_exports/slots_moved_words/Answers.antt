-- `slots::slots_moved_words` meets its contract.
use Rattle.slots.proofs.carry_exports.slots_moved_words.Goals as goal

pub returns : goal.returns
returns c = c.words.ensures
