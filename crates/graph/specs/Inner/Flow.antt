-- What the functions here promise each other. No public promise names these.
use Rattle.std.specs.Prelude.{ℕ, ◌≡◌, Bool, true, List}
use Rattle.graph.specs.Paths.{Edge, Link}

-- a path of one or more edges that goes on only through blocks that it passes
pub data Passing (es : List Edge) (passes : ℕ → Bool) : ℕ → ℕ → Type 0 where
  one : {j k : ℕ} → Link es j k → Passing es passes j k
  more : {j k l : ℕ} → Passing es passes j k → passes k ≡ true → Link es k l → Passing es passes j l

-- a solution of `spread`'s equation, read from right to left: what a predecessor has and passes, or leaves, arrives
pub record Solution (es : List Edge) (leaves passes : ℕ → Bool) (R : ℕ → Type 0) : Type 0 where
  pub leaving : {j k : ℕ} → Link es j k → leaves j ≡ true → R k
  pub passing : {j k : ℕ} → Link es j k → R j → passes j ≡ true → R k
