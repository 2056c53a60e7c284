-- What the functions here promise each other. No public promise names these.
use Rattle.std.specs.Prelude.{ℕ, ◌+◌, ◌≤◌, List, get_or}
use Rattle.words.specs.Widths.{block_count, edge_count}
use Rattle.graph.specs.Checks.{space_of}
use Rattle.graph.specs.Inner.Work.{Within}
use Rattle.tarjan.specs.Components.{Components}
use Rattle.components.specs.Entry.{edges_in}

-- what `solve` leaves in the work space: the components' numbers from `base` on, within W
pub record Solved (blocks edges : List ℕ) (base : ℕ) (work₀ work : List ℕ) (count : ℕ) : Type 0 where
  pub kept : Within 0 (space_of (block_count blocks) (edge_count edges) 0) work₀ work
  pub few : count ≤ block_count blocks
  pub components : Components (edges_in blocks edges) (block_count blocks) (λ v. get_or work (base + v) 0) count
