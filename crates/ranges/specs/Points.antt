-- Document 01, "Ranges": points, ranges, and what it is for two of them to overlap.
use Rattle.std.specs.Prelude.{ℕ, ◌+◌, ◌≤◌, ◌<◌, Bool, false, ◌&&◌, ◌||◌, ◌↔◌, get_or, leb}
use Rattle.std.proofs.Math.Option.{Option, some, none}
use mathlib.Core.List.{List, [], ◌∷◌, Memᴰ}
use Rattle.ranges.specs.declared.Range.{Range}

abbrev pub range : ℕ → ℕ → Range
range s e = record { start = s; end = e }

-- the range at a place of a list
abbrev pub range_at : List Range → ℕ → Range
range_at rs i = get_or rs i (range 0 0)

-- the ranges of an area, none of an item without one
abbrev pub listed : Option (List Range) → List Range
listed none = []
listed (some rs) = rs

-- x is a point of some range of the list
abbrev pub Point : List Range → ℕ → Type 0
Point rs x = (r : Range) × Memᴰ r rs × (r.start ≤ x) × (x ≤ r.end)

-- the same as a test
abbrev pub within : ℕ → Range → Bool
within x r = leb r.start x && leb x r.end

abbrev pub inside : ℕ → List Range → Bool
inside x [] = false
inside x (r ∷ rs) = within x r || inside x rs

-- `overlaps`: "each starts no later than the other ends"
abbrev pub overlaps : Range → Range → Bool
overlaps r s = leb r.start s.end && leb s.start r.end

-- "start ≤ end"
abbrev pub Upright : List Range → Type 0
Upright rs = (r : Range) → Memᴰ r rs → r.start ≤ r.end

-- in order and apart: no range is reversed, and each starts past the end of the one before
abbrev pub Past : ℕ → List Range → Type 0
Past x [] = Unit {0}
Past x (r ∷ rs) = (x < r.start) × (r.start ≤ r.end) × Past r.end rs

abbrev pub Apart : List Range → Type 0
Apart [] = Unit {0}
Apart (r ∷ rs) = (r.start ≤ r.end) × Past r.end rs

-- in order with a gap between any two: the point after a range is in none of them
pub record Gapped (rs : List Range) : Type 0 where
  pub apart : Apart rs
  pub gap : (r : Range) → Memᴰ r rs → Point rs (r.end + 1) → ⊥

-- the same points lie in both lists: they "cover the same points"
abbrev pub Same : List Range → List Range → Type 0
Same rs ss = (x : ℕ) → Point rs x ↔ Point ss x

-- some point is in both lists
abbrev pub Common : List Range → List Range → Type 0
Common rs ss = (x : ℕ) × Point rs x × Point ss x
