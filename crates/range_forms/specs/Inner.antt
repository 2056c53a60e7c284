-- What private functions promise each other. No entry's promise names these.
use Rattle.std.specs.Prelude.{ℕ, ◌<◌, min, ◌≡◌, Bool, true, false, cond, ◌||◌, List, length, get_or, take, ltb}
use Rattle.refusals.specs.Outcomes.{Outcome, refused}
use Rattle.ranges.specs.declared.Range.{Range}
use Rattle.ranges.specs.Points.{range_at}
use Rattle.range_entries.specs.Entries.{clashes_of as columnsClash}
use Rattle.range_forms.specs.Lent.{clashes_of}

-- a range's start or its end
abbrev pub point_of : Bool → Range → ℕ
point_of false r = r.start
point_of true r = r.end

-- the first n numbers of a column are the starts, or the ends, of the first n ranges
unfoldable pub Filled : Bool → List Range → List ℕ → ℕ → Type 0
Filled ends rs c n = (i : ℕ) → i < n → get_or c i 0 ≡ point_of ends (range_at rs i)

-- a whole column, up to k ranges
abbrev pub Column : ℕ → Bool → List Range → List ℕ → Type 0
Column k ends rs c = Filled ends rs c (min (length rs) k)

-- the test over the first n and the first m of the columns, each of at most k
unfoldable pub clashes_over : ℕ → List ℕ → List ℕ → ℕ → List ℕ → List ℕ → ℕ → Outcome Bool
clashes_over k s e n t f m = cond (ltb k n || ltb k m) (refused 1 0) (columnsClash (take n s) (take n e) (take m t) (take m f))

-- the test over two lists, each of at most k ranges
unfoldable pub clashes_within : ℕ → List Range → List Range → Outcome Bool
clashes_within k rs ss = cond (ltb k (length rs) || ltb k (length ss)) (refused 1 0) (clashes_of rs ss)
