-- `insts::checks::end` meets its contract: an instruction that is not there.
use mathlib.Core.Path.{◌∙◌}
use Rattle.insts.proofs.CheckLaws.{end_is_below}
use mathlib.Core.List.{[]}
use Rattle.insts.proofs.checks.end.Goals as goal

pub returns : goal.returns
returns c = c.below.ensures ∙ end_is_below (c.args.insts.now) [] (c.args.ends.now)
