-- `slots::slots_work_words` meets its contract.
use Rattle.slots.proofs.slots_work_words.Goals as goal

pub returns : goal.returns
returns c = c.words.ensures
