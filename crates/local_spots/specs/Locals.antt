-- Kinds, touches and ends that are lent by themselves: numbers, rows `local,start,end` and rows `local,point`, and those of one local in the work space.
use Rattle.std.specs.Prelude.{ℕ, cond, List, [], ◌∷◌, get_or, eqb}
use Rattle.words.specs.Rows.{records}
use Rattle.words.specs.Widths.{touch_width, stop_width}
use Rattle.ranges.specs.declared.Range.{Range}
use Rattle.ranges.specs.Points.{range}
use Rattle.carrying.specs.declared.Kind.{Kind}
use Rattle.carrying.specs.Lists.{gather}
use Rattle.kind_numbers.specs.Numbers.{kind_by}

-- a local's kind, by the number lent
abbrev pub kind_for : List ℕ → ℕ → Kind
kind_for kinds l = kind_by (get_or kinds l 0)

-- the local's touches, in lent order: rows that name another count for others, or for nobody
abbrev pub touches_for : List ℕ → ℕ → List Range
touches_for rows l = gather (λ f. cond (eqb (f 0) l) (range (f 1) (f 2) ∷ []) []) (records touch_width (λ f. f) rows)

-- its ends, in lent order
abbrev pub ends_for : List ℕ → ℕ → List ℕ
ends_for rows l = gather (λ f. cond (eqb (f 0) l) (f 1 ∷ []) []) (records stop_width (λ f. f) rows)
