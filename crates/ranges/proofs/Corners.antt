-- The corners of the definitions, by computation: number 10 where it turns, the forms of a range, and points that two ranges just share or just miss.
use mathlib.Core.Path.{◌≡◌, refl}
use mathlib.Core.Bool.{true, false}
use mathlib.Core.List.{[], ◌∷◌}
use Rattle.refusals.specs.declared.Refusal.TheVariants.{Want}
use Rattle.refusals.specs.Verdicts.{first, scan, Bad, Fine}
use Rattle.words.specs.Rows.{tabulate}
use Rattle.ranges.specs.Points.{range, within, inside, overlaps}
use Rattle.ranges.specs.Merged.{not_after, insert, sort, join, merged, joined}
use Rattle.ranges.specs.Forms.{columns, starts, ends, areas_of}
use Rattle.ranges.specs.Inner.{pack, unpack}
use Rattle.ranges.specs.Lent.{list_verdict, faulty}

-- "a reversed range": of one point, reversed by one; "unsorted or overlapping itself" gives the later range: at the end before, one past it; only a list that is to be in order is asked it
pub lent : (list_verdict true (range 4 4 ∷ []) ≡ Fine) × (list_verdict false (range 1 2 ∷ range 5 4 ∷ []) ≡ Bad Want 1)
    × (list_verdict true (range 1 4 ∷ range 4 6 ∷ []) ≡ Bad Want 1) × (list_verdict true (range 1 4 ∷ range 5 6 ∷ []) ≡ Fine) × (list_verdict false (range 1 4 ∷ range 0 6 ∷ []) ≡ Fine) × (faulty (range 1 4 ∷ range 0 0 ∷ []) ≡ true)
unfolding first scan list_verdict
lent = (refl, refl, refl, refl, refl, refl)

-- a range's start and end, in two columns, in a row and in one word
pub forms : (columns (1 ∷ 3 ∷ []) (2 ∷ 4 ∷ []) ≡ range 1 2 ∷ range 3 4 ∷ []) × (starts (range 1 2 ∷ range 3 4 ∷ []) ≡ 1 ∷ 3 ∷ []) × (ends (range 1 2 ∷ range 3 4 ∷ []) ≡ 2 ∷ 4 ∷ [])
    × (areas_of (1 ∷ 2 ∷ 3 ∷ 4 ∷ 5 ∷ []) ≡ range 1 2 ∷ range 3 4 ∷ []) × (pack (range 1 2) ≡ 4294967298) × (unpack 4294967298 ≡ range 1 2)
unfolding tabulate
forms = (refl, refl, refl, refl, refl, refl)

-- "both ends included"; "each starts no later than the other ends", on either side
pub points : (within 3 (range 4 6) ≡ false) × (within 4 (range 4 6) ≡ true) × (within 6 (range 4 6) ≡ true) × (within 7 (range 4 6) ≡ false) × (inside 5 (range 1 2 ∷ range 5 5 ∷ []) ≡ true)
    × (overlaps (range 1 4) (range 4 6) ≡ true) × (overlaps (range 4 6) (range 1 4) ≡ true) × (overlaps (range 1 4) (range 5 6) ≡ false) × (overlaps (range 5 6) (range 1 4) ≡ false)
points = (refl, refl, refl, refl, refl, refl, refl, refl, refl)

-- "sorts by start, then end"; "joins only ranges that share a point", and those that touch "as well": at the end, one past, two past, at the largest point
pub lists : (not_after (range 1 2) (range 1 3) ≡ true) × (not_after (range 1 3) (range 1 2) ≡ false) × (merged (range 4 6 ∷ range 1 4 ∷ []) ≡ range 1 6 ∷ []) × (merged (range 5 6 ∷ range 1 4 ∷ []) ≡ range 1 6 ∷ [])
    × (merged (range 6 7 ∷ range 1 4 ∷ []) ≡ range 1 4 ∷ range 6 7 ∷ []) × (merged (range 2 3 ∷ range 1 9 ∷ []) ≡ range 1 9 ∷ [])
    × (merged (range 4294967295 4294967295 ∷ range 4294967294 4294967294 ∷ range 0 0 ∷ []) ≡ range 0 0 ∷ range 4294967294 4294967295 ∷ [])
unfolding insert sort join merged
lists = (refl, refl, refl, refl, refl, refl, refl)

-- a reversed range covers nothing and stays: so equal areas are asked of lists without one
pub reversed : (merged (range 5 4 ∷ []) ≡ range 5 4 ∷ []) × (merged [] ≡ []) × (inside 4 (range 5 4 ∷ []) ≡ false) × (inside 5 (range 5 4 ∷ []) ≡ false)
unfolding insert sort join merged
reversed = (refl, refl, refl, refl)

-- `joined`: "when the new one starts at its end plus 1": at the end, one past, two past
pub joins : (joined (range 1 4 ∷ []) (range 4 6) ≡ range 1 4 ∷ range 4 6 ∷ []) × (joined (range 1 4 ∷ []) (range 5 6) ≡ range 1 6 ∷ []) × (joined (range 1 4 ∷ []) (range 6 7) ≡ range 1 4 ∷ range 6 7 ∷ [])
unfolding joined
joins = (refl, refl, refl)
