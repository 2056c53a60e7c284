-- `local` meets its contract.
use mathlib.Core.Path.{ap, ◌∙◌}
use Rattle.codes.specs.Codes.{option_code}
use Rattle.query_codes.proofs.local.Goals as goal

pub returns : goal.returns
returns c = c.found.ensures ∙ ap option_code c.local.ensures
