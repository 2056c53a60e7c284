-- `slots::slots_area_words` meets its contract.
use Rattle.slots.proofs.area_exports.slots_area_words.Goals as goal

pub returns : goal.returns
returns c = c.words.ensures
