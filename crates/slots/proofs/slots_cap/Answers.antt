-- `slots::slots_cap` meets its contract.
use Rattle.slots.proofs.CodeLaws.{cap_coded}
use Rattle.slots.proofs.slots_cap.Goals as goal

pub returns : goal.returns
returns c = cap_coded c.cap.ensures c.verdict.ensures
