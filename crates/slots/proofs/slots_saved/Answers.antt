-- `slots::slots_saved` meets its contract.
use mathlib.Core.Path.{ap, ◌∙◌}
use Rattle.codes.specs.Codes.{count_code}
use Rattle.slots.proofs.slots_saved.Goals as goal

pub returns : goal.returns
returns c = c.answer.ensures ∙ ap count_code c.saved.ensures
