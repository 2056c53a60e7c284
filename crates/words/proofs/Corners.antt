-- The corners of the definitions, by computation: rows of numbers, of which the last may be cut short.
use mathlib.Core.Path.{◌≡◌, refl}
use mathlib.Core.Bool.{true, false}
use mathlib.Core.List.{[], ◌∷◌}
use Rattle.words.specs.Rows.{tabulate, row_count, whole_rows, field, records, flat}
use Rattle.words.specs.Inner.{row_put}

pub rows : (row_count 3 (4 ∷ 5 ∷ 6 ∷ 7 ∷ 8 ∷ []) ≡ 1) × (row_count 3 (4 ∷ 5 ∷ 6 ∷ 7 ∷ 8 ∷ 9 ∷ []) ≡ 2) × (whole_rows 3 (4 ∷ 5 ∷ 6 ∷ []) ≡ true) × (whole_rows 3 (4 ∷ 5 ∷ 6 ∷ 7 ∷ []) ≡ false) × (whole_rows 3 [] ≡ true)
    × (field 3 (4 ∷ 5 ∷ 6 ∷ 7 ∷ 8 ∷ 9 ∷ []) 1 0 ≡ 7) × (field 3 (4 ∷ 5 ∷ 6 ∷ 7 ∷ 8 ∷ 9 ∷ []) 0 2 ≡ 6) × (records 2 (λ f. f 1) (4 ∷ 5 ∷ 6 ∷ 7 ∷ 8 ∷ []) ≡ 5 ∷ 7 ∷ [])
    × (tabulate 3 (λ i. i) ≡ 0 ∷ 1 ∷ 2 ∷ []) × (flat ((1 ∷ 2 ∷ []) ∷ (3 ∷ []) ∷ []) ≡ 1 ∷ 2 ∷ 3 ∷ []) × (row_put (0 ∷ 0 ∷ 0 ∷ 0 ∷ 0 ∷ 0 ∷ []) 1 4 5 6 7 ≡ 0 ∷ 4 ∷ 5 ∷ 6 ∷ 7 ∷ 0 ∷ [])
unfolding tabulate flat
rows = (refl, refl, refl, refl, refl, refl, refl, refl, refl, refl, refl)
