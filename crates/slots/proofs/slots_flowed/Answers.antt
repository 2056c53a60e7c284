-- `slots::slots_flowed` meets its contract.
use mathlib.Core.Path.{sym}
use Rattle.slots.proofs.slots_flowed.Goals as goal

pub returns : goal.returns
returns c =
    record { told = c.flowed.result; answer = c.verdict.ensures; holds = rw (sym c.over.ensures) c.flowed.ensures }
