-- Document 01, "Blocks and edges": the rows of `flowed` and of `spread`, for one bit, by paths. A bit is a function from places.
use Rattle.std.specs.Prelude.{ℕ, ◌≡◌, Bool, true, List}
use Rattle.graph.specs.Paths.{Edge, Link, Route}

-- `flowed` over predecessors: "a touched block is reached over one or more edges", from the touched block to this one
abbrev pub Reached : List Edge → (ℕ → Bool) → ℕ → Type 0
Reached es touched k = (j : ℕ) × (touched j ≡ true) × Route es j k

-- `flowed` over successors: from this block to a touched one
abbrev pub Reaching : List Edge → (ℕ → Bool) → ℕ → Type 0
Reaching es touched k = (l : ℕ) × (touched l ≡ true) × Route es k l

-- `spread`: "arriving at a block = any predecessor's arriving bits that pass, or its leaving bits": the least such
pub data Arrives (es : List Edge) (leaves passes : ℕ → Bool) : ℕ → Type 0 where
  left : {j k : ℕ} → Link es j k → leaves j ≡ true → Arrives es leaves passes k
  passed : {j k : ℕ} → Link es j k → Arrives es leaves passes j → passes j ≡ true → Arrives es leaves passes k
