-- `counts` meets its contract.
use Rattle.query_checks.proofs.CheckLaws.{counts_plan, counts_areas}
use mathlib.Core.Path.{sym, ◌∙◌}
use Rattle.query_checks.proofs.counts.Goals as goal

pub returns-then-bad_count : goal.returns-then-bad_count
returns-then-bad_count c = let a = c.args in counts_plan a.cells.now a.items.now a.areas.now a.locals (sym c.bad_count.ensures ∙ c.if-bad_count.true)

pub returns : goal.returns
returns c = let a = c.args in counts_areas a.cells.now a.items.now a.areas.now a.locals (sym c.bad_count.ensures ∙ c.if-bad_count.false) c.bad_areas.ensures
