-- What `apart` answers and refuses: document 01, numbers 1 and 7.
use Rattle.std.specs.Prelude.{ℕ, ◌+◌, ◌/◌, ◌%◌, ◌≡◌, Bool, not, ◌||◌, List, [], ◌∷◌, ◌++◌, map, ltb, eqb}
use Rattle.std.proofs.Math.Option.{none}
use Rattle.refusals.specs.declared.Refusal.TheVariants.{Count, Space}
use Rattle.refusals.specs.Verdicts.{in_order, check, Verdict}
use Rattle.refusals.specs.Outcomes.{Outcome, unless, numbered, after}
use Rattle.words.specs.Rows.{whole_rows, records, flat}
use Rattle.words.specs.Widths.{local_width, local_count, cell_width, item_width, slot_count}
use Rattle.fitting.specs.Wants.{Want}
use Rattle.fitting.specs.Queries.{Item, Slots, apart}
use Rattle.capping.specs.Cap.{room_row}

-- locals 2 numbers: size, align; a slot's size and alignment are its width
abbrev pub locals_of : List ℕ → List Want
locals_of s = records local_width (λ f. record { size = f 0; align = f 1; area = none }) s

abbrev pub widths_of : List ℕ → List Want
widths_of s = map (λ w. record { size = w; align = w; area = none }) s

-- number 1, by the lengths of the answer lists: a list that is no whole rows, or a count over its limit
abbrev pub apart_count : List ℕ → List ℕ → ℕ → ℕ → Bool
apart_count locals slots cells items =
    not (whole_rows local_width locals) || (not (eqb (cells % cell_width) 0) || (not (eqb (items % item_width) 0) || (ltb 2048 (local_count locals) || ltb 2048 (slot_count slots))))

-- number 7: "cell or item list under the item count"
abbrev pub apart_space : ℕ → ℕ → ℕ → Bool
apart_space n cells items = ltb (cells / cell_width) n || ltb (items / item_width) n

abbrev pub apart_checks : List ℕ → List ℕ → ℕ → ℕ → List Verdict
apart_checks locals slots cells items = check Count (apart_count locals slots cells items) ∷ check Space (apart_space (local_count locals + slot_count slots) cells items) ∷ []

unfoldable pub apart_verdict : List ℕ → List ℕ → ℕ → ℕ → Verdict
apart_verdict locals slots cells items = in_order (apart_checks locals slots cells items)

-- an item's row where no area is shared: cell, 0, 0, 0
abbrev pub lone_row : Item → List ℕ
lone_row i = i.cell ∷ 0 ∷ 0 ∷ 0 ∷ []

abbrev pub room_rows : Slots → List ℕ
room_rows S = flat (map room_row S.cells)

abbrev pub lone_rows : Slots → List ℕ
lone_rows S = flat (map lone_row S.locals ++ map lone_row S.slots)

abbrev pub apart_of : List ℕ → List ℕ → ℕ → ℕ → Outcome Slots
apart_of locals slots cells items = unless (apart_verdict locals slots cells items) (apart (locals_of locals) (widths_of slots))

-- the answer by document 01's number and index, and each list
pub record ApartBy (v : Verdict) (o : Outcome Slots) (cells items : List ℕ) (r : Verdict) (cells' items' : List ℕ) : Type 0 where
  pub answer : numbered r ≡ numbered v
  pub in_cells : cells' ≡ after o room_rows cells
  pub in_items : items' ≡ after o lone_rows items
