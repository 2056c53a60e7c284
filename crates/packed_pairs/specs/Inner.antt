-- What the functions here promise each other. No public promise names these.
use Rattle.std.specs.Prelude.{ℕ, ◌+◌, ◌≤◌, ◌<◌, ◌≡◌, List, get_or}
use Rattle.words.specs.Inner.{part}
use Rattle.ranges.specs.Merged.{union}
use Rattle.ranges.specs.Inner.{unpacked}

-- What the function that unites two lists in one work space promises.

-- two lists' ranges have been united at `at`; nothing else changes
pub record UnitedIn (w₀ w : List ℕ) (one n two m at r : ℕ) : Type 0 where
  pub within : r ≤ n + m
  pub is : unpacked (part at r w) ≡ union (unpacked (part one n w₀)) (unpacked (part two m w₀))
  pub before : (i : ℕ) → i < at → get_or w i 0 ≡ get_or w₀ i 0
  pub after : (i : ℕ) → at + r ≤ i → get_or w i 0 ≡ get_or w₀ i 0
