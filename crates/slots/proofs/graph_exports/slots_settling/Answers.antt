-- `slots::slots_settling` meets its contract.
use Rattle.slots.proofs.graph_exports.slots_settling.Goals as goal

pub returns : goal.returns
returns c =
    record { told = c.settling.result; answer = c.verdict.ensures; holds = c.settling.ensures }
