-- `clashes` meets its contract: both ways through columns tell the lists apart within their limit.
use mathlib.Core.Path.{◌∙◌}
use Rattle.range_forms.proofs.ColumnLaws.{within_limit, within_both}
use Rattle.range_forms.proofs.clashes.Goals as goal

pub returns-then-a-gt-FEW : goal.returns-then-a-gt-FEW
returns-then-a-gt-FEW c = c.many.ensures ∙ within_limit _ _

pub returns : goal.returns
returns c = c.by_columns.ensures ∙ within_both _ _ _ c.if-a-gt-FEW.false c.if-b-gt-FEW.false
