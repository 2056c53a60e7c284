-- The areas of locals whose touches and ends are lent by themselves, in the work space.
use Rattle.std.specs.Prelude.{ℕ, List}
use Rattle.components.specs.Entry.{edges_in}
use Rattle.areas.specs.Blocks.{Graph}
use Rattle.spots.specs.Spots.{line_of}

-- the blocks and the edges by place
abbrev pub graph_for : List ℕ → List ℕ → Graph
graph_for blocks edges = line_of blocks (edges_in blocks edges)
