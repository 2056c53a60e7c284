-- The corners of a walk, by computation: parts of the area list 1–2, 5–6, 6–9, 3–2.
use Prim.Native.Nat.{ℕ}
use mathlib.Core.Path.{◌≡◌, refl}
use mathlib.Core.Bool.{Bool, true, false}
use mathlib.Core.List.{List, [], ◌∷◌}
use Rattle.refusals.specs.Verdicts.{first, scan}
use Rattle.ranges.specs.declared.Range.{Range}
use Rattle.ranges.specs.Points.{range}
use Rattle.ranges.specs.Lent.{list_verdict}
use Rattle.range_walk.specs.Walk.{bad_part, looked_at}

abbrev areas : List Range
areas = range 1 2 ∷ range 5 6 ∷ range 6 9 ∷ range 3 2 ∷ []

-- a part: whether it is bad, and how many of its ranges are looked at
abbrev Part : ℕ → ℕ → ℕ → Bool → ℕ → Type 0
Part present first count bad looked = (bad_part areas present first count ≡ bad) × (looked_at areas present first count ≡ looked)

-- "all, or up to and with the first that is reversed or starts no later than the one before ends": a part's first range has none before it; a range that is both counts once
pub inside : Part 1 0 2 false 2 × Part 1 0 3 true 3 × Part 1 0 4 true 3 × Part 1 1 3 true 2 × Part 1 2 1 false 1 × Part 1 2 2 true 2 × Part 1 3 1 true 1
unfolding first scan list_verdict
inside = ((refl, refl), (refl, refl), (refl, refl), (refl, refl), (refl, refl), (refl, refl), (refl, refl))

-- an empty part up to the list's end; "none of an area outside its list", a range past it or an empty part behind it; none of an absent want's, any other flag is present
pub around : Part 1 4 0 false 0 × Part 1 3 2 true 0 × Part 1 5 0 true 0 × Part 0 3 1 false 0 × Part 0 5 0 false 0 × Part 2 3 1 true 1
unfolding first scan list_verdict
around = ((refl, refl), (refl, refl), (refl, refl), (refl, refl), (refl, refl), (refl, refl))

-- ranges that touch are in order, up to the last point
pub touching : (looked_at (range 1 2 ∷ range 3 4 ∷ []) 1 0 2 ≡ 2) × (bad_part (range 1 2 ∷ range 3 4 ∷ []) 1 0 2 ≡ false) × (bad_part (range 4294967294 4294967294 ∷ range 4294967295 4294967295 ∷ []) 1 0 2 ≡ false)
unfolding first scan list_verdict
touching = (refl, refl, refl)
