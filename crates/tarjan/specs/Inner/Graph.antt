-- What the functions here promise each other. No public promise names these.
use Rattle.std.specs.Prelude.{◌≡◌, ◌≢◌, ℕ, ◌≤◌, ◌<◌}

-- A graph of n places, as rows of targets, and what reaches what in it. Assumes nothing.

-- the row of u: the targets from beg u up to end u
pub record Graph : Type 0 where
  pub n : ℕ
  pub beg : ℕ → ℕ
  pub end : ℕ → ℕ
  pub tgt : ℕ → ℕ

pub record Sound (G : Graph) : Type 0 where
  pub rows : (u : ℕ) → u < G.n → G.beg u ≤ G.end u
  pub nodes : (u k : ℕ) → u < G.n → G.beg u ≤ k → k < G.end u → G.tgt k < G.n

pub record Edge (G : Graph) (u v : ℕ) : Type 0 where
  pub k : ℕ
  pub from : G.beg u ≤ k
  pub to : k < G.end u
  pub is : G.tgt k ≡ v

-- zero or more edges
pub data Reach (G : Graph) (u : ℕ) : ℕ → Type 0 where
  here : Reach G u u
  step : {v w : ℕ} → Reach G u v → Edge G v w → Reach G u w

-- the contract: the components of the graph, count of them, numbered so that an edge between two goes to the lower
pub record ComponentsOf (G : Graph) (which : ℕ → ℕ) (count : ℕ) : Type 0 where
  pub count_le : count ≤ G.n
  pub which_lt : (v : ℕ) → v < G.n → which v < count
  -- two nodes that reach each other are in one component, and two nodes of one component reach each other
  pub alike : (u v : ℕ) → u < G.n → v < G.n → Reach G u v → Reach G v u → which u ≡ which v
  pub together : (u v : ℕ) → u < G.n → v < G.n → which u ≡ which v → Reach G u v × Reach G v u
  pub down : (u v : ℕ) → u < G.n → Edge G u v → which u ≢ which v → which v < which u
  pub used : (x : ℕ) → x < count → (v : ℕ) × (v < G.n) × (which v ≡ x)

-- the places in the components' order, each of the n once, so that each component is a run
pub record Listed (n : ℕ) (which ord : ℕ → ℕ) : Type 0 where
  pub listed : (i : ℕ) → i < n → ord i < n
  pub sorted : (i j : ℕ) → i ≤ j → j < n → which (ord i) ≤ which (ord j)
  pub every : (v : ℕ) → v < n → (i : ℕ) × (i < n) × (ord i ≡ v)
  pub once : (i j : ℕ) → i < j → j < n → ord i ≢ ord j
