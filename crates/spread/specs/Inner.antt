-- What the functions here promise each other. No public promise names these.
use Rattle.std.specs.Prelude.{ℕ, ◌+◌, ◌*◌, ◌≤◌, ◌<◌, ◌≡◌, ◌↔◌, true, List, length, get_or}
use Rattle.words.specs.Widths.{block_count, edge_count}
use Rattle.bits.specs.Bits.{bit}
use Rattle.graph.specs.Paths.{Between}
use Rattle.graph.specs.Flow.{Arrives}
use Rattle.graph.specs.Checks.{space_of}
use Rattle.graph.specs.Inner.Work.{Within, EdgeRows}
use Rattle.components.specs.Entry.{edges_in}
use Rattle.flow.specs.Entry.{row_bit}
use Rattle.flow.specs.Inner.{base_of}
use Rattle.postorder.specs.Settling.{Settling}

-- ---- what the inner steps leave

-- the successors' rows, and behind them the order, from `at` on, and the ranks
pub record Prepared (blocks edges : List ℕ) (at : ℕ) (w₀ w : List ℕ) : Type 0 where
  pub at_is : at ≡ base_of blocks edges
  pub kept : Within 0 (base_of blocks edges + block_count blocks + block_count blocks + block_count blocks + block_count blocks) w₀ w
  pub count : length (edges_in blocks edges) ≡ edge_count edges
  pub between : Between (block_count blocks) (edges_in blocks edges)
  pub rows : EdgeRows (edges_in blocks edges) (block_count blocks) (edge_count edges + edge_count edges) w
  pub settling : Settling (edges_in blocks edges) (block_count blocks) (λ i. get_or w (at + i) 0)
  pub ranks : (i : ℕ) → i < block_count blocks → get_or w (at + block_count blocks + get_or w (at + i) 0) 0 ≡ i

-- what `solve` leaves: the answer's rows from `at` on, within W
pub record Solved (blocks edges leaves passes : List ℕ) (words at : ℕ) (w₀ w : List ℕ) : Type 0 where
  pub kept : Within 0 (space_of (block_count blocks) (edge_count edges) (length leaves)) w₀ w
  pub inside : at + length leaves ≤ space_of (block_count blocks) (edge_count edges) (length leaves)
  pub bits : (v b : ℕ) → v < block_count blocks → b < words * 64
      → (bit w (at + v * words) b ≡ true) ↔ Arrives (edges_in blocks edges) (λ k. row_bit leaves words k b) (λ k. row_bit passes words k b) v
