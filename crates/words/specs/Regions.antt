-- Regions of a lent list, by index: several arrays live side by side in one work space.
use Rattle.std.specs.Prelude.{List, ◌++◌, ℕ, ◌+◌, ◌/◌, drop, replicate}

-- the first n numbers zero, the others unchanged: the work space after an answer
abbrev pub cleared : ℕ → List ℕ → List ℕ
cleared n w = replicate n 0 ++ drop n w

-- ⌈n/64⌉: the words of a row of n bits
abbrev pub row_words : ℕ → ℕ
row_words n = (n + 63) / 64
