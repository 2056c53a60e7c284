-- What the queries of a lent plan refuse: document 01, numbers 1, 7 and 10.
use Rattle.std.specs.Prelude.{ℕ, ◌-◌, ◌+◌, Bool, cond, not, ◌||◌, false, List, [], ◌∷◌, leb, ltb, eqb}
use Rattle.refusals.specs.Verdicts.{in_order, scan, check, Bad, Fine, Verdict}
use Rattle.words.specs.Rows.{whole_rows}
use Rattle.words.specs.Widths.{cell_width, cell_count, item_width, item_row_count, item_cell, item_present, item_first, item_ranges, range_width, range_count}
use Rattle.refusals.specs.declared.Refusal.TheVariants.{Count, Space, Want}

-- number 1: a list that is no whole rows, locals over the items, or a count over its limit
abbrev pub bad_count : List ℕ → List ℕ → ℕ → Bool
bad_count cells items locals =
    not (whole_rows cell_width cells) || (not (whole_rows item_width items) || (ltb (item_row_count items) locals || (ltb 2048 locals || ltb 2048 (item_row_count items - locals))))

-- number 10: "an item naming no cell"
abbrev pub no_cell : List ℕ → List ℕ → ℕ → Bool
no_cell cells items i = leb (cell_count cells) (item_cell items i)

abbrev pub items_verdict : List ℕ → List ℕ → Verdict
items_verdict cells items = scan Want (no_cell cells items) (item_row_count items)

-- number 10: "or more cells than items": "surplus cells give the item count"
abbrev pub surplus : List ℕ → List ℕ → Verdict
surplus cells items = cond (ltb (item_row_count items) (cell_count cells)) (Bad Want (item_row_count items)) Fine

-- "the queries check 1, 7, 10": `local`, `slot` and `saved` write no list
abbrev pub plan_checks : List ℕ → List ℕ → ℕ → List Verdict
plan_checks cells items locals = check Count (bad_count cells items locals) ∷ items_verdict cells items ∷ surplus cells items ∷ []

unfoldable pub plan_verdict : List ℕ → List ℕ → ℕ → Verdict
plan_verdict cells items locals = in_order (plan_checks cells items locals)

-- ---- `shared`

-- number 1: an area list that is no whole rows, or over its limit
abbrev pub bad_areas : List ℕ → Bool
bad_areas areas = not (whole_rows range_width areas) || ltb 65536 (range_count areas)

-- number 10: "a part outside the area list"; an absent area's part is not read
abbrev pub outside : ℕ → ℕ → ℕ → ℕ → Bool
outside ranges present first count = cond (eqb present 0) false (ltb ranges (first + count))

abbrev pub bad_item : List ℕ → List ℕ → ℕ → ℕ → Bool
bad_item cells items ranges i = no_cell cells items i || outside ranges (item_present items i) (item_first items i) (item_ranges items i)

abbrev pub parts_verdict : List ℕ → List ℕ → ℕ → Verdict
parts_verdict cells items ranges = scan Want (bad_item cells items ranges) (item_row_count items)

abbrev pub shared_checks : List ℕ → List ℕ → List ℕ → ℕ → List Verdict
shared_checks cells items areas locals =
    check Count (bad_count cells items locals || bad_areas areas) ∷ parts_verdict cells items (range_count areas) ∷ surplus cells items ∷ []

unfoldable pub shared_verdict : List ℕ → List ℕ → List ℕ → ℕ → Verdict
shared_verdict cells items areas locals = in_order (shared_checks cells items areas locals)

-- where the part's two numbers are told in a list: one that is shorter is 7
abbrev pub told_checks : List ℕ → List ℕ → List ℕ → ℕ → ℕ → List Verdict
told_checks cells items areas locals room =
    check Count (bad_count cells items locals || bad_areas areas) ∷ check Space (ltb room 2) ∷ parts_verdict cells items (range_count areas) ∷ surplus cells items ∷ []

unfoldable pub told_verdict : List ℕ → List ℕ → List ℕ → ℕ → ℕ → Verdict
told_verdict cells items areas locals room = in_order (told_checks cells items areas locals room)

-- ---- `crowded`

-- an answer list under the slots is 7
abbrev pub crowded_checks : List ℕ → List ℕ → ℕ → ℕ → List Verdict
crowded_checks cells items locals room =
    check Count (bad_count cells items locals) ∷ check Space (ltb room (item_row_count items - locals)) ∷ items_verdict cells items ∷ surplus cells items ∷ []

unfoldable pub crowded_verdict : List ℕ → List ℕ → ℕ → ℕ → Verdict
crowded_verdict cells items locals room = in_order (crowded_checks cells items locals room)
