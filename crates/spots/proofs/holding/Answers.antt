-- `spots::holding` meets its contract: the block is the last of those that start no later.
use Rattle.graph.proofs.Line.{starts_rise}
use Rattle.spots.proofs.SpotLaws.{held}
use native.Mathlib.Omega.{arith}
use Rattle.spots.proofs.holding.Goals as goal

pub at_most_in_rows-r-requires : goal.at_most_in_rows-r-requires
at_most_in_rows-r-requires c = (omega arith, omega arith, starts_rise c.args.blocks.now (c.requires))

pub returns-then-r-eq0 : goal.returns-then-r-eq0
returns-then-r-eq0 c = held _ _ _ _ (c.requires) c.at_most_in_rows-r.ensures (omega arith)

pub returns : goal.returns
returns c = held _ _ _ _ (c.requires) c.at_most_in_rows-r.ensures (omega arith)
