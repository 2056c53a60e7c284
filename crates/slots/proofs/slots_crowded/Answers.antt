-- `slots::slots_crowded` meets its contract.
use Rattle.slots.proofs.CodeLaws.{crowd_coded}
use Rattle.slots.proofs.slots_crowded.Goals as goal

pub returns : goal.returns
returns c = crowd_coded c.crowded.ensures c.answer.ensures
