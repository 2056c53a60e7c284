-- `slots::slots_apart` meets its contract.
use Rattle.slots.proofs.CodeLaws.{apart_coded}
use Rattle.slots.proofs.slots_apart.Goals as goal

pub returns : goal.returns
returns c = apart_coded c.apart.ensures c.verdict.ensures
