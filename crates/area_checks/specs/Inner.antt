-- What the functions here promise each other. No public promise names these.
use Rattle.std.specs.Prelude.{ℕ, ◌≤◌, ◌≡◌, List, length}
use Rattle.area_layout.specs.Layout.{space_for}
use Rattle.area_layout.specs.Inner.{Small}
use Rattle.graph.specs.Line.{blocks_of, jumps_of, edge_verdict, Sound}
use Rattle.area_checks.specs.Checks.{sizes_of, touch_verdict}
use Rattle.refusals.specs.Verdicts.{Fine}

-- what no refusal before measuring says of the lists, the area list by its length
pub record Lent (blocks edges kinds touches ends : List ℕ) (areas : ℕ) (w : List ℕ) : Type 0 where
  pub small : Small (sizes_of blocks edges (length kinds) (length touches) (length ends) areas)
  pub sound : Sound (blocks_of blocks)
  pub edges_fine : edge_verdict (blocks_of blocks) (jumps_of edges) ≡ Fine
  pub touches_fine : touch_verdict blocks touches ≡ Fine
  pub space : space_for (sizes_of blocks edges (length kinds) (length touches) (length ends) areas) ≤ length w
