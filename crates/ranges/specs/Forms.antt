-- The two forms in which lists of ranges are lent: two columns of numbers, and rows of two numbers.
use Rattle.std.specs.Prelude.{ℕ, List, [], ◌∷◌, map}
use Rattle.words.specs.Rows.{records}
use Rattle.words.specs.Widths.{range_width}
use Rattle.ranges.specs.declared.Range.{Range}
use Rattle.ranges.specs.Points.{range}

-- the ranges of a column of starts and a column of ends
abbrev pub columns : List ℕ → List ℕ → List Range
columns [] es = []
columns (s ∷ ss) [] = []
columns (s ∷ ss) (e ∷ es) = range s e ∷ columns ss es

abbrev pub starts : List Range → List ℕ
starts rs = map (λ r. r.start) rs

abbrev pub ends : List Range → List ℕ
ends rs = map (λ r. r.end) rs

-- the area list: a row is a range's start and end
abbrev pub areas_of : List ℕ → List Range
areas_of s = records range_width (λ f. range (f 0) (f 1)) s
