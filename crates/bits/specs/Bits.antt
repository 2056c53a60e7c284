-- Bits of a word, and rows of bits: a row is some words of a list from `base` on, 64 bits to a word.
use Rattle.std.specs.Prelude.{Bool, List, ℕ, ◌+◌, ◌/◌, ◌%◌, ◌^◌, eqb, get_or}

-- binary digit k of x, 0 or 1
abbrev pub digit : ℕ → ℕ → ℕ
digit k x = x / 2 ^ k % 2

-- whether bit k of the word x is set
abbrev pub bit_of : ℕ → ℕ → Bool
bit_of x k = eqb (digit k x) 1

-- bit b of the row at base, whatever its count of words
abbrev pub bit : List ℕ → ℕ → ℕ → Bool
bit w base b = bit_of (get_or w (base + b / 64) 0) (b % 64)
