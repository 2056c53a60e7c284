-- `slots::slots_local_areas` meets its contract.
use Rattle.slots.proofs.area_exports.slots_local_areas.Goals as goal

pub returns : goal.returns
returns c =
    record { told = c.local_areas.result; answer = c.answer.ensures; holds = c.local_areas.ensures }
