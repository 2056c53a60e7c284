-- `slots::slots_union` meets its contract.
use Rattle.slots.proofs.CodeLaws.{list_coded}
use Rattle.slots.proofs.slots_union.Goals as goal

pub returns : goal.returns
returns c = list_coded c.union.ensures c.answer.ensures
