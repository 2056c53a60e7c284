-- What the functions here promise each other. No public promise names these.
use Rattle.std.specs.Prelude.{ℕ, ◌+◌, ◌*◌, ◌≤◌, ◌<◌, ◌≡◌, ◌↔◌, true, List, length}
use Rattle.words.specs.Widths.{block_count, edge_count}
use Rattle.bits.specs.Bits.{bit}
use Rattle.graph.specs.Paths.{Edge, turned}
use Rattle.graph.specs.Checks.{space_of}
use Rattle.graph.specs.Inner.Work.{Within}
use Rattle.components.specs.Entry.{edges_in}
use Rattle.flow.specs.declared.Over.{Over}
use Rattle.flow.specs.declared.Over.TheVariants.{Predecessors, Successors}
use Rattle.flow.specs.Entry.{FlowsTo, row_bit}

-- the edges that are followed
abbrev pub way_of : Over → List Edge → List Edge
way_of Predecessors es = turned es
way_of Successors es = es

-- where the components' numbers stand behind the rows of the edges
abbrev pub base_of : List ℕ → List ℕ → ℕ
base_of blocks edges = edge_count edges + edge_count edges + (block_count blocks + 1 + edge_count edges)

-- what `solve` leaves: the answer's rows from `at` on, within W
pub record Solved (over : Over) (blocks edges touched : List ℕ) (words at : ℕ) (w₀ w : List ℕ) : Type 0 where
  pub kept : Within 0 (space_of (block_count blocks) (edge_count edges) (length touched)) w₀ w
  pub inside : at + length touched ≤ space_of (block_count blocks) (edge_count edges) (length touched)
  pub bits : (v b : ℕ) → v < block_count blocks → b < words * 64
      → (bit w (at + v * words) b ≡ true) ↔ FlowsTo over (edges_in blocks edges) (λ k. row_bit touched words k b) v
