-- Which edges the exported `flowed` follows, by a number, and W of the entries over a graph.
use Rattle.std.specs.Prelude.{ℕ, zero, suc, ◌*◌, min}
use Rattle.graph.specs.Checks.{space_of}
use Rattle.flow.specs.declared.Over.{Over}
use Rattle.flow.specs.declared.Over.TheVariants.{Predecessors, Successors}

-- 0: the edges of predecessors are followed; any other number: of successors
abbrev pub over_of : ℕ → Over
over_of zero = Predecessors
over_of (suc n) = Successors

-- W of an entry over a graph, of so many blocks, edges and words to a row: 8 × (blocks + edges + blocks × words), or the largest 64-bit number where it is more,
-- which no work space has
abbrev pub graph_words : ℕ → ℕ → ℕ → ℕ
graph_words blocks edges words = min (space_of blocks edges (blocks * words)) 18446744073709551615
