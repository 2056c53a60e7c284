-- `slots::slots_merged` meets its contract.
use Rattle.slots.proofs.CodeLaws.{list_coded}
use Rattle.slots.proofs.slots_merged.Goals as goal

pub returns : goal.returns
returns c = list_coded c.merged.ensures c.answer.ensures
