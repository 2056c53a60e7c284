-- What private functions promise each other. No entry's promise names these.
use Rattle.std.specs.Prelude.{ℕ, ◌+◌, ◌/◌, ◌≤◌, ◌<◌, max, ◌*◌, ◌%◌, ◌^◌, ◌⊎◌, ◌≡◌, Bool, true, false, cond, List, [], ◌∷◌, map, length, take, drop, leb}
use Rattle.ranges.specs.declared.Range.{Range}
use Rattle.ranges.specs.Merged.{not_after}
use Rattle.ranges.specs.Points.{range, range_at}

-- a list after one range more: the last is widened where they share a point or touch, else the new one is appended
unfoldable pub taken : List Range → Range → List Range
taken [] r = r ∷ []
taken (a ∷ []) r = cond (leb r.start (a.end + 1)) (range a.start (max a.end r.end) ∷ []) (a ∷ r ∷ [])
taken (a ∷ b ∷ ds) r = a ∷ taken (b ∷ ds) r

-- an answer list L₀ that has become L: its first k ranges are rs, and the others are as they were
pub record Listing (L₀ L : List Range) (k : ℕ) (rs : List Range) : Type 0 where
  pub len : length L ≡ length L₀
  pub room : k ≤ length L₀
  pub is : take k L ≡ rs
  pub past : drop k L ≡ drop k L₀

-- one range more is taken up into the first k
pub record TakenUp (L₀ L : List Range) (k k' : ℕ) (r : Range) : Type 0 where
  pub listing : Listing L₀ L k' (taken (take k L₀) r)
  pub least : k ≤ k'
  pub most : k' ≤ k + 1

-- whether the next of two lists' ranges together is the first list's: the earlier front, of equal ones the first's
abbrev pub one_first : List Range → List Range → ℕ → ℕ → Bool
one_first rs ss i j =
    cond (leb (length ss) j) true (cond (leb (length rs) i) false (not_after (range_at rs i) (range_at ss j)))

-- a bound that was doubled until the number there is not below the point: f's values rise, and half the bound is passed
pub record Galloped (f : ℕ → ℕ) (n point bound : ℕ) : Type 0 where
  pub some : 0 < bound
  pub passed : (bound / 2 ≡ 0) ⊎ ((bound / 2 < n) × (f (bound / 2) < point))
  pub stops : bound < n → point ≤ f bound

-- a range in one word: the start above, the end in the low 32 bits
abbrev pub pack : Range → ℕ
pack r = r.start * 2 ^ 32 + r.end

abbrev pub unpack : ℕ → Range
unpack x = range (x / 2 ^ 32) (x % 2 ^ 32)

-- the ranges of a list of words
abbrev pub unpacked : List ℕ → List Range
unpacked w = map unpack w

abbrev pub packed : List Range → List ℕ
packed rs = map pack rs

-- "both ends included"
abbrev pub Within : Range → ℕ → Type 0
Within r x = (r.start ≤ x) × (x ≤ r.end)
