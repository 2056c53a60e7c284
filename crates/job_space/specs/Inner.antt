-- What the functions here promise each other. No public promise names these.
use Rattle.std.specs.Prelude.{ℕ, ◌^◌, ◌<◌, List}
use Rattle.std.specs.Borrow.{Bor}
use Rattle.job_space.specs.declared.Sizes.{Sizes}
use Rattle.job_space.specs.Rows.{Rows, rows_of}

-- the same, as a `requires` names the lists
abbrev pub rows_at : ℕ → ℕ → Bor (List ℕ) → Bor (List ℕ) → Bor (List ℕ) → Bor (List ℕ) → Bor (List ℕ) → Bor (List ℕ)
    → Bor (List ℕ) → Bor (List ℕ) → Bor (List ℕ) → Bor (List ℕ) → Bor (List ℕ) → Bor (List ℕ) → Rows
rows_at points v blocks edges insts operands crossings locals slots addresses ends pieces assigned moves =
    rows_of points v blocks.now edges.now insts.now operands.now crossings.now locals.now slots.now addresses.now ends.now pieces.now assigned.now moves.now

-- each number fits 32 bits: W of any such numbers is computed
pub record Counted (z : Sizes) : Type 0 where
  pub registers : z.v < 2 ^ 32
  pub blocks : z.blocks < 2 ^ 32
  pub edges : z.edges < 2 ^ 32
  pub insts : z.insts < 2 ^ 32
  pub operands : z.operands < 2 ^ 32
  pub crossings : z.crossings < 2 ^ 32
  pub locals : z.locals < 2 ^ 32
  pub slots : z.slots < 2 ^ 32
  pub addresses : z.addresses < 2 ^ 32
  pub ends : z.ends < 2 ^ 32
  pub pieces : z.pieces < 2 ^ 32
  pub assigned : z.assigned < 2 ^ 32
  pub moves : z.moves < 2 ^ 32
  pub ranges : z.room < 2 ^ 32
