-- `spill_checks::at_inst` meets its contract: a law for each way out.
use mathlib.Core.Path.{sym, ◌∙◌}
use Rattle.spill_checks.proofs.PositionLaws.{stray_when, kept_when}
use Rattle.spill_checks.proofs.at_inst.Goals as goal

pub returns-then-unplaced : goal.returns-then-unplaced
returns-then-unplaced c = stray_when c.args.p (sym c.unplaced.ensures ∙ c.if-unplaced.true)

pub returns : goal.returns
returns c = kept_when c.args.p (sym c.unplaced.ensures ∙ c.if-unplaced.false)
