-- Document 01, "Wants, cells, plan": the queries of `Slots`, over the rows of a plan.
use Rattle.std.specs.Prelude.{ℕ, suc, ◌+◌, ◌-◌, min, Bool, cond, List, [], ◌∷◌, ◌++◌, map, length, take, drop, eqb, ltb}
use Rattle.std.proofs.Math.Option.{Option, some, none}
use Rattle.std.proofs.Math.ListN.{get_elem?}
use Rattle.words.specs.Rows.{records, tabulate}
use Rattle.words.specs.Widths.{cell_width, item_width}
use Rattle.ranges.specs.declared.Range.{Range}
use Rattle.ranges.specs.Forms.{areas_of}
use Rattle.fitting.specs.Wants.{Want, want_at}
use Rattle.fitting.specs.Plan.{Cell, Plan}

-- cells 2 numbers: size, align; items 4: cell, present, first, count
pub record Room : Type 0 where
  pub size : ℕ
  pub align : ℕ

pub record Item : Type 0 where
  pub cell : ℕ
  pub area : Option (List Range)

-- the part of the area list that an item names: "a present flag and a part of the area list"
abbrev pub part_of : List Range → ℕ → ℕ → ℕ → Option (List Range)
part_of areas present first count = cond (eqb present 0) none (some (take count (drop first areas)))

abbrev pub rooms_of : List ℕ → List Room
rooms_of s = records cell_width (λ f. record { size = f 0; align = f 1 }) s

abbrev pub items_of : List Range → List ℕ → List Item
items_of areas s = records item_width (λ f. record { cell = f 0; area = part_of areas (f 1) (f 2) (f 3) }) s

-- a plan as the queries see it: the items are the locals, then the slots
pub record Slots : Type 0 where
  pub cells : List Room
  pub locals : List Item
  pub slots : List Item

abbrev pub slots_of : ℕ → List ℕ → List ℕ → List ℕ → Slots
slots_of locals cells items areas = record {
  cells = rooms_of cells;
  locals = take locals (items_of (areas_of areas) items);
  slots = drop locals (items_of (areas_of areas) items);
}

abbrev pub cell_in : Option Item → Option ℕ
cell_in none = none
cell_in (some i) = some i.cell

-- "`local` and `slot` give the cell"; "an index past the end is answered as absent"
abbrev pub local : Slots → ℕ → Option ℕ
local S i = cell_in (get_elem? S.locals i)

abbrev pub slot : Slots → ℕ → Option ℕ
slot S i = cell_in (get_elem? S.slots i)

-- how many items are in a cell
unfoldable pub count_in : List Item → ℕ → ℕ
count_in [] c = 0
count_in (i ∷ is) c = cond (eqb i.cell c) 1 0 + count_in is c

abbrev pub crowd : Slots → ℕ → Bool
crowd S c = ltb 1 (count_in S.locals c + count_in S.slots c)

-- "`shared` gives a local's area only if its cell has two or more members"
abbrev pub shared_by : Slots → Option Item → Option (List Range)
shared_by S none = none
shared_by S (some i) = cond (crowd S i.cell) i.area none

abbrev pub shared : Slots → ℕ → Option (List Range)
shared S i = shared_by S (get_elem? S.locals i)

-- "`crowded` the slots whose cell has two or more members, rising"
unfoldable pub crowded_from : Slots → ℕ → List Item → List ℕ
crowded_from S n [] = []
crowded_from S n (i ∷ is) = cond (crowd S i.cell) (n ∷ crowded_from S (suc n) is) (crowded_from S (suc n) is)

abbrev pub crowded : Slots → List ℕ
crowded S = crowded_from S 0 S.slots

-- "`saved` items less cells"
abbrev pub saved : Slots → ℕ
saved S = length S.locals + length S.slots - length S.cells

-- "`apart` opens a cell per item in index order, with no shared area"
abbrev pub room_of : Want → Room
room_of w = record { size = w.size; align = w.align }

abbrev pub apart : List Want → List Want → Slots
apart locals slots = record {
  cells = map room_of locals ++ map room_of slots;
  locals = tabulate (length locals) (λ i. record { cell = i; area = none });
  slots = tabulate (length slots) (λ i. record { cell = length locals + i; area = none });
}

-- "`cap` lowers each lent cell's alignment to a maximum"
abbrev pub cap : ℕ → Room → Room
cap most c = record { size = c.size; align = min c.align most }

-- what `fit` hands to the queries
abbrev pub room_in : Cell → Room
room_in c = record { size = c.size; align = c.align }

abbrev pub answered : List Want → ℕ → Plan → Slots
answered ws locals p = record {
  cells = map room_in p.cells;
  locals = tabulate locals (λ i. record { cell = p.cell i; area = (want_at ws i).area });
  slots = tabulate (length ws - locals) (λ i. record { cell = p.cell (locals + i); area = (want_at ws (locals + i)).area });
}
