-- The corners of the definitions, by computation: every field told apart, each query on a plan of three items, the layout of cells whose size is not their alignment.
use Prim.Native.Nat.{ℕ}
use mathlib.Core.Path.{◌≡◌, refl}
use mathlib.Core.Bool.{true, false}
use mathlib.Core.Option.{some, none}
use mathlib.Core.List.{List, [], ◌∷◌}
use lib.IntN.{pos, negsuc}
use Rattle.refusals.specs.declared.Refusal.TheVariants.{Align, Depth}
use Rattle.refusals.specs.Verdicts.{first, in_order, scan, Bad, Fine}
use Rattle.words.specs.Rows.{tabulate}
use Rattle.ranges.specs.Points.{range}
use Rattle.ranges.specs.Merged.{insert as insertRange, sort, join, merged, meets, clashes}
use Rattle.fitting.specs.Wants.{Want, before, insert, ordered, order_of}
use Rattle.fitting.specs.Plan.{Cell, takes, lowest, spent, widened, nothing, put, fit, plan_of}
use Rattle.fitting.specs.Queries.{Room, Slots, part_of, rooms_of, items_of, slots_of, local, slot, count_in, shared, crowded_from, crowded, saved, apart, cap, answered}
use Rattle.fitting.specs.Layout.{round_up, depth_before, depth_of, offsets_of, among_powers, is_power, depth_verdict, layout_verdict}
use Rattle.fitting.proofs.PowerLaws.{power_tells}

-- cells 2 numbers: size, align; items 4: cell, present, first, count
pub rows : (rooms_of (4 ∷ 5 ∷ 6 ∷ 7 ∷ []) ≡ record { size = 4; align = 5 } ∷ record { size = 6; align = 7 } ∷ [])
    × (items_of (range 0 1 ∷ range 3 4 ∷ range 6 7 ∷ range 9 9 ∷ []) (5 ∷ 1 ∷ 1 ∷ 2 ∷ []) ≡ record { cell = 5; area = some (range 3 4 ∷ range 6 7 ∷ []) } ∷ [])
unfolding tabulate
rows = (refl, refl)

-- a present flag: "0 is absent, any other number present"; a present, empty area
pub flags : (part_of (range 0 1 ∷ []) 0 0 1 ≡ none) × (part_of (range 0 1 ∷ []) 1 0 1 ≡ some (range 0 1 ∷ [])) × (part_of (range 0 1 ∷ []) 2 0 1 ≡ some (range 0 1 ∷ [])) × (part_of (range 0 1 ∷ []) 1 0 0 ≡ some [])
flags = (refl, refl, refl, refl)

-- a plan of two locals and a slot in two cells: local 0 and slot 0 share cell 1, local 1 is alone in cell 0
abbrev three : Slots
three = slots_of 2 (16 ∷ 8 ∷ 4 ∷ 2 ∷ []) (1 ∷ 1 ∷ 0 ∷ 1 ∷ 0 ∷ 1 ∷ 1 ∷ 2 ∷ 1 ∷ 1 ∷ 3 ∷ 1 ∷ []) (0 ∷ 1 ∷ 3 ∷ 4 ∷ 6 ∷ 7 ∷ 9 ∷ 9 ∷ [])

-- "`local` and `slot` give the cell", "an index past the end is answered as absent"
pub cells_of : (local three 0 ≡ some 1) × (local three 1 ≡ some 0) × (local three 2 ≡ none) × (slot three 0 ≡ some 1) × (slot three 1 ≡ none)
unfolding tabulate
cells_of = (refl, refl, refl, refl, refl)

-- "`shared` gives a local's area only if its cell has two or more members", "`crowded` the slots whose cell has two or more members, rising", "`saved` items less cells"
pub members : (shared three 0 ≡ some (range 0 1 ∷ [])) × (shared three 1 ≡ none) × (shared three 2 ≡ none) × (crowded three ≡ 0 ∷ []) × (saved three ≡ 1)
unfolding tabulate count_in crowded_from
members = (refl, refl, refl, refl, refl)

-- three slots, of which the first and the last share a cell
pub rising : crowded (slots_of 0 (1 ∷ 1 ∷ 2 ∷ 2 ∷ []) (0 ∷ 0 ∷ 0 ∷ 0 ∷ 1 ∷ 0 ∷ 0 ∷ 0 ∷ 0 ∷ 0 ∷ 0 ∷ 0 ∷ []) []) ≡ 0 ∷ 2 ∷ []
unfolding tabulate count_in crowded_from
rising = refl

abbrev want : ℕ → ℕ → ℕ → Want
want size align x = record { size = size; align = align; area = some (range x x ∷ []) }

-- "`apart` opens a cell per item in index order, with no shared area"; "`cap` lowers each lent cell's alignment to a maximum": above it, at it, below it
pub alone : (apart (want 8 4 0 ∷ []) (want 2 1 5 ∷ []) ≡ record { cells = record { size = 8; align = 4 } ∷ record { size = 2; align = 1 } ∷ []; locals = record { cell = 0; area = none } ∷ []; slots = record { cell = 1; area = none } ∷ [] })
    × (cap 4 (record { size = 16; align = 8 }) ≡ record { size = 16; align = 4 }) × (cap 4 (record { size = 16; align = 4 }) ≡ record { size = 16; align = 4 }) × (cap 4 (record { size = 16; align = 2 }) ≡ record { size = 16; align = 2 })
unfolding tabulate
alone = (refl, refl, refl, refl)

-- "alignment falling, size falling, index rising"
pub order : (order_of (want 1 2 0 ∷ want 8 1 0 ∷ want 3 2 0 ∷ want 1 2 0 ∷ []) ≡ 2 ∷ 0 ∷ 3 ∷ 1 ∷ []) × (before (want 1 2 0 ∷ want 1 2 0 ∷ []) 0 1 ≡ true) × (before (want 1 2 0 ∷ want 1 2 0 ∷ []) 1 0 ≡ false)
unfolding insert ordered
order = (refl, refl, refl)

-- a cell's size and alignment are each its members' largest, whichever has it
abbrev cell : ℕ → ℕ → ℕ → Cell
cell size align x = record { size = size; align = align; area = some (range x x ∷ []) }

pub largest : (widened (cell 8 1 0) (want 2 4 5) (range 5 5 ∷ []) ≡ record { size = 8; align = 4; area = some (range 0 0 ∷ range 5 5 ∷ []) })
    × (widened (cell 2 4 0) (want 8 1 5) (range 5 5 ∷ []) ≡ record { size = 8; align = 4; area = some (range 0 0 ∷ range 5 5 ∷ []) })
unfolding insertRange sort join merged
largest = (refl, refl)

-- a cell's area is merged of its members', so that those that touch become one range; a want's own is "taken as it comes"
pub touching : (widened (cell 8 8 4) (want 8 8 5) (range 5 5 ∷ []) ≡ record { size = 8; align = 8; area = some (range 4 5 ∷ []) })
    × ((put (record { size = 8; align = 8; area = some (range 4 4 ∷ range 5 5 ∷ []) } ∷ []) 5 0 nothing).cells ≡ record { size = 8; align = 8; area = some (range 4 4 ∷ range 5 5 ∷ []) } ∷ [])
unfolding insertRange sort join merged lowest
touching = (refl, refl)

-- "it joins the first cell that has an area and doesn't clash": cells that clash, have no area, fit, and fit as well; "each cell met spends one, also one without area"
abbrev four : List Cell
four = cell 8 8 5 ∷ record { size = 8; align = 8; area = none } ∷ cell 8 8 6 ∷ cell 8 8 7 ∷ []

pub probes : (takes four (range 5 5 ∷ []) 0 ≡ false) × (takes four (range 5 5 ∷ []) 1 ≡ false) × (takes four (range 5 5 ∷ []) 2 ≡ true)
    × (lowest four 3 (range 5 5 ∷ []) ≡ some 2) × (lowest four 2 (range 5 5 ∷ []) ≡ none) × (spent four 3 (some 2) ≡ 3) × (spent four 2 none ≡ 2) × (spent four 9 none ≡ 4)
unfolding meets clashes lowest
probes = (refl, refl, refl, refl, refl, refl, refl, refl)

-- "an item without area opens one and spends nothing"
pub free : ((put (record { size = 8; align = 4; area = none } ∷ []) 5 0 (record { cells = four; cell = λ i. 9; probes = 3 })).probes ≡ 3) × ((put (record { size = 8; align = 4; area = none } ∷ []) 5 0 nothing).cells ≡ record { size = 8; align = 4; area = none } ∷ [])
free = (refl, refl)

-- ---- the layout

abbrev room : ℕ → ℕ → Room
room size align = record { size = size; align = align }

-- "rounded up": at a multiple, one past it, and 0
pub rounded : (round_up 16 8 ≡ 16) × (round_up 17 8 ≡ 24) × (round_up 0 8 ≡ 0) × (round_up 12 1 ≡ 12)
unfolding round_up
rounded = (refl, refl, refl, refl)

-- "0 with no cells"; the sum is rounded up, not the size; a cell of size 0 lies at the depth before it, rounded up
pub depths : (depth_of [] ≡ 0) × (depth_of (room 12 8 ∷ []) ≡ 16) × (depth_of (room 0 8 ∷ []) ≡ 0) × (depth_of (room 3 1 ∷ room 3 2 ∷ room 0 4 ∷ room 0 4 ∷ []) ≡ 8)
    × (offsets_of (room 3 1 ∷ room 3 2 ∷ room 0 4 ∷ room 0 4 ∷ []) ≡ negsuc 2 ∷ negsuc 5 ∷ negsuc 7 ∷ negsuc 7 ∷ []) × (offsets_of (room 0 8 ∷ []) ≡ pos 0 ∷ [])
unfolding tabulate round_up depth_before
depths = (refl, refl, refl, refl, refl, refl)

-- 13: "a depth over 2,147,483,647", at it and one past it, by padding too; 12: no power of two, 0 is none; 12 of any cell before 13 of any
pub layouts : (layout_verdict (room 2147483647 1 ∷ []) ≡ Fine) × (offsets_of (room 2147483647 1 ∷ []) ≡ negsuc 2147483646 ∷ []) × (layout_verdict (room 2147483647 1 ∷ room 1 1 ∷ []) ≡ Bad Depth 1)
    × (layout_verdict (room 2147483647 2 ∷ []) ≡ Bad Depth 0) × (layout_verdict (room 8 3 ∷ []) ≡ Bad Align 0) × (layout_verdict (room 8 0 ∷ []) ≡ Bad Align 0) × (layout_verdict (room 2147483648 4 ∷ room 8 3 ∷ []) ≡ Bad Align 1)
unfolding tabulate round_up depth_before among_powers layout_verdict in_order first scan
layouts = (refl, refl, refl, refl, refl, refl, refl)

-- the highest power of two in 32 bits: size 0 lies at 0, size 1 too deep
pub highest : (is_power 2147483648 ≡ true) × (depth_verdict (room 0 2147483648 ∷ []) ≡ Fine) × (depth_verdict (room 1 2147483648 ∷ []) ≡ Bad Depth 0)
unfolding round_up depth_before first scan
highest = (power_tells 2147483648 (31, refl), refl, refl)

-- three wants and their plan as the queries see them: the second shares the first's cell
abbrev wants : List Want
wants = want 8 4 0 ∷ want 4 4 5 ∷ want 2 2 5 ∷ []

pub told : answered wants 2 (plan_of wants 9 (order_of wants)) ≡ record {
  cells = record { size = 8; align = 4 } ∷ record { size = 2; align = 2 } ∷ [];
  locals = record { cell = 0; area = some (range 0 0 ∷ []) } ∷ record { cell = 0; area = some (range 5 5 ∷ []) } ∷ [];
  slots = record { cell = 1; area = some (range 5 5 ∷ []) } ∷ [];
}
unfolding tabulate insertRange sort join merged meets clashes insert ordered lowest fit
told = refl
