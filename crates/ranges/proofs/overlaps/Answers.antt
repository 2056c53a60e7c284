-- `ranges::overlaps` meets its contract: both tests, in order.
use borrow.Author.Tests.{le-leb, lt-leb}
use Rattle.ranges.proofs.overlaps.Goals as goal

pub returns-then-start-other_end : goal.returns-then-start-other_end
returns-then-start-other_end c = simp (le-leb _ _ c.if-start-other_end.true)

pub returns-else-start-other_end : goal.returns-else-start-other_end
returns-else-start-other_end c = simp (lt-leb _ _ c.if-start-other_end.false)
