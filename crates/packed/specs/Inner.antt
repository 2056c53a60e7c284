-- What the functions here promise each other. No public promise names these.
use Rattle.std.specs.Prelude.{ℕ, ◌+◌, ◌≤◌, ◌<◌, ◌≡◌, ◌⊎◌, List, get_or, drop}
use Rattle.words.specs.Inner.{part}
use Rattle.ranges.specs.Merged.{merged}
use Rattle.ranges.specs.Inner.{unpack, unpacked, TakenUp}

-- What the functions over words of one work space promise: a range in each word, from a place on.

-- one range more is taken up into the first k, and nothing else changes
pub record TakenIn (w₀ w : List ℕ) (at k k' x : ℕ) : Type 0 where
  pub taken_up_lem : TakenUp (unpacked (drop at w₀)) (unpacked (drop at w)) k k' (unpack x)
  pub before : (i : ℕ) → i < at → get_or w i 0 ≡ get_or w₀ i 0
  pub after : (i : ℕ) → at + k' ≤ i → get_or w i 0 ≡ get_or w₀ i 0

-- n ranges have become r, merged; nothing outside the n words changes, and what is left of them is free
pub record MergedIn (w₀ w : List ℕ) (at n r : ℕ) : Type 0 where
  pub within : r ≤ n
  pub is : unpacked (part at r w) ≡ merged (unpacked (part at n w₀))
  pub before : (i : ℕ) → i < at → get_or w i 0 ≡ get_or w₀ i 0
  pub after : (i : ℕ) → at + n ≤ i → get_or w i 0 ≡ get_or w₀ i 0

-- the n words from a on and the m words from b on have none in common
abbrev pub Clear : ℕ → ℕ → ℕ → ℕ → Type 0
Clear a n b m = (a + n ≤ b) ⊎ (b + m ≤ a)
