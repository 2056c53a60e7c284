-- What the functions here promise each other. No public promise names these.
use Rattle.std.specs.Prelude.{ℕ, ◌+◌, ◌≡◌, List, length}
use Rattle.words.specs.Inner.{Region}
use Rattle.graph.specs.Inner.Work.{Within}
use Rattle.carrying.specs.Carried.{Code, kind_of}
use Rattle.reach.specs.declared.Lay.{Lay}
use Rattle.reach.specs.Prepared.{code_of}
use Rattle.reach.specs.Inner.{Prepared}
use Rattle.follow.specs.declared.Sizes.{Sizes}
use Rattle.kind_numbers.specs.Numbers.{kind_number}

-- the kinds of all locals are in the answer list, and only the queue has changed
pub record Kinds (insts addresses : List ℕ) (lay : Lay) (z : Sizes) (answer₀ answer w₀ w : List ℕ) : Type 0 where
  pub kept : Within lay.queue (lay.queue + z.insts) w₀ w
  pub len : length answer ≡ length answer₀
  pub kinds : (operands crossings ends : List ℕ) → Prepared (code_of z.v insts operands crossings addresses ends) lay w₀ z.locals z.edges
      → Region answer₀ answer 0 z.locals (λ l. kind_number (kind_of (code_of z.v insts operands crossings addresses ends) l))

-- the kinds of the l locals, with changes in the first words of the work space only
pub record Measured (C : Code) (l used : ℕ) (answer₀ answer w₀ w : List ℕ) : Type 0 where
  pub kept : Within 0 used w₀ w
  pub kinds : Region answer₀ answer 0 l (λ m. kind_number (kind_of C m))
