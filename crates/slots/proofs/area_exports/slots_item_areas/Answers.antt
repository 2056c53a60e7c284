-- `slots::slots_item_areas` meets its contract.
use Rattle.slots.proofs.area_exports.slots_item_areas.Goals as goal

pub returns : goal.returns
returns c =
    record { told = c.item_areas.result; answer = c.answer.ensures; holds = c.item_areas.ensures }
