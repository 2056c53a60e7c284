-- `moved_ranges::whole` meets its contract: a law for each way out.
use Rattle.moved_ranges.proofs.MovedEntry.{odd_rows, whole_rows_lem}
use Rattle.moved_ranges.proofs.whole.Goals as goal

pub returns-then-lent-ne0 : goal.returns-then-lent-ne0
returns-then-lent-ne0 c = odd_rows c.args.lent c.if-lent-ne0.true

pub returns : goal.returns
returns c = whole_rows_lem c.args.lent c.if-lent-ne0.false
