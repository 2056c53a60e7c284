-- `held` meets its contract.
use mathlib.Core.Path.{refl}
use Rattle.planning.proofs.row_plans.held.Goals as goal

pub returns : goal.returns
returns c = (refl, c.requires.1.few c.args.group c.requires.2)
