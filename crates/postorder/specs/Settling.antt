-- `settling`: an order of the places in which, loops aside, each comes after those it reads from. Document 01 names it beside `spread` and leaves the order free:
-- what `Settling` says is what a buyer may build on, and rows of `spread` are the same for every order. Within it the code's order is slots.rs's; that is compared, not proved.
use Rattle.std.specs.Prelude.{ℕ, ◌<◌, ◌≡◌, List}
use Rattle.graph.specs.Paths.{Edge, Link, Route}

-- each of the n places once; for an edge from j to k where k does not reach j, j stands before k; among places of one loop, and without an edge between them, any order
pub record Settling (es : List Edge) (n : ℕ) (order : ℕ → ℕ) : Type 0 where
  pub listed : (i : ℕ) → i < n → order i < n
  pub every : (k : ℕ) → k < n → (i : ℕ) × (i < n) × (order i ≡ k)
  pub once : (i j : ℕ) → i < n → j < n → order i ≡ order j → i ≡ j
  pub before : (j k : ℕ) → Link es j k → (Route es k j → ⊥) → (p q : ℕ) → p < n → q < n → order p ≡ j → order q ≡ k → p < q
