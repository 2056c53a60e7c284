-- Words and rows of words by their bits: what an answer list of rows of bits holds.
use Rattle.std.specs.Prelude.{ℕ, zero, suc, ◌+◌, ◌*◌, Bool, cond, List}
use Rattle.words.specs.Rows.{tabulate, flat}

-- the number whose lowest d bits are g's: bit k counts 2 ^ k
unfoldable pub word_of : ℕ → (ℕ → Bool) → ℕ
word_of zero g = 0
word_of (suc d) g = cond (g 0) 1 0 + 2 * word_of d (λ k. g (suc k))

-- a row of so many words, 64 bits to a word
abbrev pub row_of : ℕ → (ℕ → Bool) → List ℕ
row_of words g = tabulate words (λ i. word_of 64 (λ k. g (i * 64 + k)))

-- n such rows one after another: bit b of row v is g v b
abbrev pub rows_of : ℕ → ℕ → (ℕ → ℕ → Bool) → List ℕ
rows_of n words g = flat (tabulate n (λ v. row_of words (g v)))
