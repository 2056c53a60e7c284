-- `known` meets its contract: rows of one number.
use mathlib.Core.Path.{◌∙◌}
use Rattle.area_checks.proofs.CheckLaws.{kinds_are}
use Rattle.area_checks.proofs.known.Goals as goal

pub returns : goal.returns
returns c = c.below.ensures ∙ kinds_are c.args.kinds.now
