-- The checks of the blocks and the edges give 1, 2, then 3.
use Prim.Native.Nat.{ℕ}
use mathlib.Core.List.{List, [], ◌∷◌}
use lib.ListN.{length}
use Rattle.refusals.specs.declared.Refusal.TheVariants.{Count, Line, Edge as EdgeWord}
use Rattle.refusals.specs.Orders.{Giving}
use Rattle.refusals.proofs.Orders.{check_gives, scan_gives}
use Rattle.graph.specs.Line.{blocks_of, jumps_of, bad_block, bad_edge}
use Rattle.graph.specs.Checks.{bad_count, graph_checks}

pub graph_gives : (blocks edges : List ℕ) (points : ℕ) → Giving (Count ∷ Line ∷ EdgeWord ∷ []) (graph_checks blocks edges points)
graph_gives blocks edges points = (
  check_gives Count (bad_count blocks edges),
  (
    scan_gives Line (bad_block (blocks_of blocks) points) (length (blocks_of blocks)),
    (scan_gives EdgeWord (bad_edge (length (blocks_of blocks)) (jumps_of edges)) (length (jumps_of edges)), tt),
  ),
)
