-- What the functions here promise each other. No public promise names these.
use Rattle.std.specs.Prelude.{ℕ, ◌+◌, ◌≤◌, ◌<◌, ◌≡◌, ◌≢◌, List, length, get_or}
use Rattle.graph.specs.Paths.{Edge, Between}
use Rattle.graph.specs.Inner.Work.{Within, EdgeRows}
use Rattle.tarjan.specs.Components.{Components}

-- the n places component after component, each once; the order within one is free
pub record InOrder (n : ℕ) (which order : ℕ → ℕ) : Type 0 where
  pub listed : (i : ℕ) → i < n → order i < n
  pub sorted : (i j : ℕ) → i ≤ j → j < n → which (order i) ≤ which (order j)
  pub every : (k : ℕ) → k < n → (i : ℕ) × (i < n) × (order i ≡ k)
  pub once : (i j : ℕ) → i < j → j < n → order i ≢ order j

-- what the walk asks of the work space: the rows of some graph, below base, and six numbers a place from base on
pub record Walkable (n at base : ℕ) (w : List ℕ) : Type 0 where
  pub edges : List Edge
  pub between : Between n edges
  pub rows : EdgeRows edges n at w
  pub below : at + n + 1 + length edges ≤ base
  pub room : base + n + n + n + n + n + n ≤ length w

-- what it leaves: the components' numbers from base on, the order from base + 5 * n on
pub record Found (n at base : ℕ) (w₀ w : List ℕ) (count : ℕ) : Type 0 where
  pub kept : Within base (base + n + n + n + n + n + n) w₀ w
  pub few : count ≤ n
  pub components : (es : List Edge) → Between n es → EdgeRows es n at w₀ → Components es n (λ v. get_or w (base + v) 0) count
  pub order : InOrder n (λ v. get_or w (base + v) 0) (λ i. get_or w (base + n + n + n + n + n + i) 0)
