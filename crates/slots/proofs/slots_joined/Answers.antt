-- `slots::slots_joined` meets its contract.
use Rattle.slots.proofs.CodeLaws.{list_coded}
use Rattle.slots.proofs.slots_joined.Goals as goal

pub returns : goal.returns
returns c = list_coded c.joined.ensures c.answer.ensures
