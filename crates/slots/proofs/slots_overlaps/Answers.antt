-- `slots::slots_overlaps` meets its contract.
use mathlib.Core.Path.{ap, ◌∙◌}
use Rattle.codes.specs.Codes.{truth_of}
use Rattle.slots.proofs.slots_overlaps.Goals as goal

pub returns : goal.returns
returns c = c.truth.ensures ∙ ap truth_of c.overlaps.ensures
