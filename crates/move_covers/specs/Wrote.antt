-- Ranges put behind those of an answer list.
use Rattle.std.specs.Prelude.{ℕ, List, [], ◌∷◌}
use Rattle.ranges.specs.declared.Range.{Range}

-- ranges as rows of two numbers
unfoldable pub rows_of : List Range → List ℕ
rows_of [] = []
rows_of (r ∷ rs) = r.start ∷ r.end ∷ rows_of rs
