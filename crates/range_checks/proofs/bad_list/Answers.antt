-- `bad_list` meets its contract: the lengths differ, or the list is over the limit.
use borrow.Author.Tests.{eq-eqb, ne_eqb}
use Rattle.range_checks.proofs.bad_list.Goals as goal

pub returns-then-start-end : goal.returns-then-start-end
returns-then-start-end c = simp (ne_eqb _ _ c.if-start-end.true)

pub returns-else-start-end : goal.returns-else-start-end
returns-else-start-end c = simp (eq-eqb _ _ c.if-start-end.false)
