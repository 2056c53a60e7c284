-- The corners of the definitions, by computation: the area list's rows, and number 9 at the room and one over.
use Prim.Native.Nat.{ℕ, zero, suc}
use mathlib.Core.Path.{◌≡◌, refl}
use mathlib.Core.Option.{Option, some, none}
use mathlib.Core.List.{List, [], ◌∷◌}
use Rattle.refusals.specs.declared.Refusal.TheVariants.{List as ListWord}
use Rattle.words.specs.Rows.{tabulate, flat}
use Rattle.ranges.specs.declared.Range.{Range}
use Rattle.ranges.specs.Points.{range}
use Rattle.carrying.specs.Lists.{gather}
use Rattle.areas.specs.Job.{ranges_of, areas_verdict}
use Rattle.area_tables.specs.Tables.{area_rows}
use Rattle.area_tables.specs.Inner.{listing}
use Rattle.refusals.specs.Verdicts.{Bad, Fine}

-- an item with two ranges, one without area, one with a range
abbrev three : ℕ → Option (List Range)
three zero = some (range 1 2 ∷ range 4 5 ∷ [])
three (suc zero) = none
three (suc (suc n)) = some (range 7 8 ∷ [])

-- "put there in item order", each as start and end
pub rows : (area_rows 3 three ≡ 1 ∷ 2 ∷ 4 ∷ 5 ∷ 7 ∷ 8 ∷ []) × (area_rows 2 three ≡ 1 ∷ 2 ∷ 4 ∷ 5 ∷ []) × (listing 5 6 ≡ record { areas = 0; room = 5; items = 6 })
unfolding tabulate flat gather
rows = (refl, refl, refl)

-- number 9: "all areas exceed the area list"
pub room : (areas_verdict 3 three 3 ≡ Fine) × (areas_verdict 3 three 2 ≡ Bad ListWord 0)
unfolding tabulate ranges_of
room = (refl, refl)
