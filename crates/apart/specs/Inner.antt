-- What the functions here promise each other. No public promise names these.
use Rattle.std.specs.Prelude.{ℕ, ◌+◌, ◌-◌, cond, List, [], ◌∷◌, ltb}
use Rattle.words.specs.Rows.{tabulate, flat}
use Rattle.words.specs.Widths.{local_count, slot_count}
use Rattle.words.specs.Inner.{local_size, local_align, slot_size}

-- item i's rows where each item has its own cell
abbrev pub own_cell : List ℕ → List ℕ → ℕ → List ℕ
own_cell locals slots i =
    cond (ltb i (local_count locals)) (local_size locals i ∷ local_align locals i ∷ []) (slot_size slots (i - local_count locals) ∷ slot_size slots (i - local_count locals) ∷ [])

abbrev pub own_cells : List ℕ → List ℕ → List ℕ
own_cells locals slots = flat (tabulate (local_count locals + slot_count slots) (own_cell locals slots))

abbrev pub own_items : ℕ → List ℕ
own_items n = flat (tabulate n (λ i. i ∷ 0 ∷ 0 ∷ 0 ∷ []))
