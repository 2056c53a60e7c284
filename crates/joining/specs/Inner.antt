-- What the functions here promise each other. No public promise names these.
use Rattle.std.specs.Prelude.{ℕ, ◌+◌, ◌≤◌, ◌<◌, ◌≡◌, List, length, get_or}
use Rattle.words.specs.Inner.{part}
use Rattle.ranges.specs.declared.Range.{Range}
use Rattle.ranges.specs.Merged.{joined}
use Rattle.ranges.specs.Inner.{unpack, unpacked}

-- Packed ranges in the work space, and one more put on to them.

-- the r ranges from `at` on are rs; nothing before or behind them has changed
pub record Listed (w₀ w : List ℕ) (at r : ℕ) (rs : List Range) : Type 0 where
  pub len : length w ≡ length w₀
  pub is : unpacked (part at r w) ≡ rs
  pub before : (i : ℕ) → i < at → get_or w i 0 ≡ get_or w₀ i 0
  pub after : (i : ℕ) → at + r ≤ i → get_or w i 0 ≡ get_or w₀ i 0

-- one range more is put to the first k, through `joined`
pub record JoinedIn (w₀ w : List ℕ) (at k r x : ℕ) : Type 0 where
  pub listed : Listed w₀ w at r (joined (unpacked (part at k w₀)) (unpack x))
  pub least : k ≤ r
  pub most : r ≤ k + 1
