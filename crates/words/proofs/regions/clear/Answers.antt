-- `words::regions::clear` meets its contract: a region of zeros, as a list.
use Rattle.words.proofs.RegionLaws.{region_cleared}
use native.Mathlib.Omega.{arith}
use Rattle.words.proofs.regions.clear.Goals as goal

pub returns : goal.returns
returns c = region_cleared c.fill.ensures (omega arith)
