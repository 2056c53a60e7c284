-- What the functions here promise each other. No public promise names these.
use Rattle.std.specs.Prelude.{ℕ, ◌≤◌, ◌≡◌, List, length, get_or}
use Rattle.words.specs.Inner.{Region}
use Rattle.graph.specs.Inner.Work.{Within}
use Rattle.carrying.specs.Carried.{Code, carried}

-- the carried registers of a local at the front of the answer, with changes in the first words of the work space only
pub record Registers (C : Code) (l used n : ℕ) (answer₀ answer w₀ w : List ℕ) : Type 0 where
  pub kept : Within 0 used w₀ w
  pub count : n ≡ length (carried C l)
  pub room : n ≤ length answer₀
  pub list : Region answer₀ answer 0 n (λ k. get_or (carried C l) k 0)
