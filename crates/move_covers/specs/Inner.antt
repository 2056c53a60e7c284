-- What the functions here promise each other. No public promise names these.
use Rattle.std.specs.Prelude.{ℕ, ◌+◌, ◌*◌, ◌≡◌, List, ◌++◌, length, drop}
use Rattle.ranges.specs.declared.Range.{Range}
use Rattle.words.specs.Widths.{range_width}
use Rattle.move_covers.specs.Wrote.{rows_of}

-- ranges appended to the k that stand at the front of an answer list o, so that there are n
pub record Wrote (out₀ out : List ℕ) (k n : ℕ) (rs : List Range) : Type 0 where
  pub len : length out ≡ length out₀
  pub count : n ≡ k + length rs
  pub list : (xs : List Range) (o : List ℕ) → length xs ≡ k → length o ≡ length out₀ → out₀ ≡ rows_of xs ++ drop (range_width * k) o → out ≡ rows_of (xs ++ rs) ++ drop (range_width * n) o
