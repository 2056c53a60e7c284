-- The corners of the definitions, by computation: an item's row, whose first range is counted over all items before it.
use Prim.Native.Nat.{ℕ, zero, suc}
use mathlib.Core.Path.{◌≡◌, refl}
use mathlib.Core.Option.{Option, some, none}
use mathlib.Core.List.{List, [], ◌∷◌}
use Rattle.words.specs.Rows.{tabulate, flat}
use Rattle.ranges.specs.declared.Range.{Range}
use Rattle.ranges.specs.Points.{range}
use Rattle.areas.specs.Job.{ranges_of}
use Rattle.item_lists.specs.Lists.{item_row, item_rows}

-- "a present flag and a part of the area list"; a present, empty area is no absent one
pub row : (item_row 5 (some (range 1 2 ∷ range 4 5 ∷ [])) ≡ 1 ∷ 5 ∷ 2 ∷ []) × (item_row 5 (some []) ≡ 1 ∷ 5 ∷ 0 ∷ []) × (item_row 5 none ≡ 0 ∷ 0 ∷ 0 ∷ [])
row = (refl, refl, refl)

abbrev four : ℕ → Option (List Range)
four zero = some (range 1 2 ∷ range 4 5 ∷ [])
four (suc zero) = none
four (suc (suc zero)) = some (range 7 8 ∷ [])
four (suc (suc (suc n))) = some (range 7 9 ∷ [])

pub rows : item_rows 4 four ≡ 1 ∷ 0 ∷ 2 ∷ 0 ∷ 0 ∷ 0 ∷ 1 ∷ 2 ∷ 1 ∷ 1 ∷ 3 ∷ 1 ∷ []
unfolding tabulate flat ranges_of
rows = refl
