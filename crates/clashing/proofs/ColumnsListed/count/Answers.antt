-- `count` of columns meets its contract: as many ranges as starts.
use mathlib.Core.Path.{sym}
use Rattle.ranges.proofs.FormLaws.{columns_length}
use Rattle.clashing.proofs.ColumnsListed.count.Goals as goal

pub returns : goal.returns
returns c = sym (columns_length _ _ c.args.self.now.even)
