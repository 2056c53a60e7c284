-- Document 01, "Blocks and edges", `components`: what the numbers of the components promise, and the places in the components' order.
use Rattle.std.specs.Prelude.{ℕ, ◌<◌, ◌≡◌, ◌≢◌, List}
use Rattle.graph.specs.Paths.{Edge, Link, Together}

-- "places are in one component exactly when each reaches the other; an edge leaving one enters a lower-numbered one";
-- which numbers they have is free otherwise: 0 to count - 1, each in use
pub record Components (es : List Edge) (n : ℕ) (which : ℕ → ℕ) (count : ℕ) : Type 0 where
  pub alike : (j k : ℕ) → j < n → k < n → Together es j k → which j ≡ which k
  pub together : (j k : ℕ) → j < n → k < n → which j ≡ which k → Together es j k
  pub down : (j k : ℕ) → Link es j k → which j ≢ which k → which k < which j
  pub low : (k : ℕ) → k < n → which k < count
  pub used : (c : ℕ) → c < count → (k : ℕ) × (k < n) × (which k ≡ c)
