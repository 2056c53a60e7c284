-- `bad_shape` meets its contract: one law for each way out.
use mathlib.Core.Path.{refl}
use Rattle.job_space.proofs.SpaceLaws.{over_budget, odd_cells, by_items}
use Rattle.job_space.proofs.bad_shape.Goals as goal

pub returns-then-terms-gt-BUDGET : goal.returns-then-terms-gt-BUDGET
returns-then-terms-gt-BUDGET c = over_budget c.args.terms c.args.cells c.args.items c.if-terms-gt-BUDGET.true

pub returns-then-cells-ne0 : goal.returns-then-cells-ne0
returns-then-cells-ne0 c =
    odd_cells c.args.terms c.args.cells c.args.items c.if-terms-gt-BUDGET.false c.if-cells-ne0.true

pub returns : goal.returns
returns c =
    by_items c.args.terms c.args.cells c.args.items _ c.if-terms-gt-BUDGET.false c.if-cells-ne0.false refl
