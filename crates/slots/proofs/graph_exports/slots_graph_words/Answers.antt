-- `slots::slots_graph_words` meets its contract.
use Rattle.slots.proofs.graph_exports.slots_graph_words.Goals as goal

pub returns : goal.returns
returns c = c.graph_words.ensures
