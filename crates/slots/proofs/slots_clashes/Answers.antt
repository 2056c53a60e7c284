-- `slots::slots_clashes` meets its contract.
use mathlib.Core.Path.{ap, ◌∙◌}
use Rattle.codes.specs.Codes.{truth_code}
use Rattle.slots.proofs.slots_clashes.Goals as goal

pub returns : goal.returns
returns c = c.clash.ensures ∙ ap truth_code c.clashes.ensures
