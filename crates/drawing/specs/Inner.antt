-- What the functions here promise each other. No public promise names these.
use Rattle.std.specs.Prelude.{ℕ, zero, suc, ◌+◌, ◌*◌, ◌≤◌, ◌<◌, ◌^◌, List}
use Rattle.words.specs.Widths.{item_ranges}

-- how many ranges the first n items have, in rows of cell, present, first and count
unfoldable pub ranges_in : List ℕ → ℕ → ℕ
ranges_in items zero = 0
ranges_in items (suc n) = ranges_in items n + item_ranges items n

-- the largest type at which a text fits: a character is 0.62 of the type's size wide
pub record Fits (width characters most size : ℕ) : Type 0 where
  pub at_most : size ≤ most
  pub fits : 62 * characters * size ≤ 100 * width
  pub largest : (s : ℕ) → s ≤ most → 62 * characters * s ≤ 100 * width → s ≤ size

-- the fewest digits, at least one, that a number can be written with
pub record Digits (n size : ℕ) : Type 0 where
  pub enough : n < 10 ^ size
  pub fewest : (s : ℕ) → 0 < s → n < 10 ^ s → size ≤ s
  pub at_most : size ≤ 10
