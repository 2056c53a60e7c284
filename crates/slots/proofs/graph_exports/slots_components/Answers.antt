-- `slots::slots_components` meets its contract.
use Rattle.slots.proofs.graph_exports.slots_components.Goals as goal

pub returns : goal.returns
returns c =
    record { told = c.components.result; answer = c.answer.ensures; holds = c.components.ensures }
