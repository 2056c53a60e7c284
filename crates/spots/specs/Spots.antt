-- The touches and the ends of one local in the work space, and the line that they are looked up in.
use Rattle.std.specs.Prelude.{ℕ, List}
use Rattle.graph.specs.Paths.{Edge}
use Rattle.graph.specs.Line.{blocks_of}
use Rattle.areas.specs.Blocks.{Graph}

-- the lent blocks, with some edges
abbrev pub line_of : List ℕ → List Edge → Graph
line_of blocks es = record { blocks = blocks_of blocks; edges = es }
