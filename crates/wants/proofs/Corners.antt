-- The corners of the definitions, by computation: every field of a want, a cell, an item and the counts told apart.
use Prim.Native.Nat.{◌+◌}
use mathlib.Core.Path.{◌≡◌, refl}
use mathlib.Core.Option.{some, none}
use mathlib.Core.List.{[], ◌∷◌}
use lib.IntN.{negsuc}
use Rattle.words.specs.Rows.{tabulate, flat}
use Rattle.ranges.specs.Points.{range}
use Rattle.fitting.specs.Layout.{round_up, depth_before}
use Rattle.wants.specs.Entry.{wants_of, tallied, cell_rows, item_rows, cell_offsets}

-- wants 5 numbers: size, align, present, first, count
pub rows : wants_of (range 0 1 ∷ range 3 4 ∷ range 6 7 ∷ range 9 9 ∷ []) (5 ∷ 6 ∷ 1 ∷ 1 ∷ 2 ∷ 7 ∷ 8 ∷ 0 ∷ 9 ∷ 9 ∷ []) ≡ record { size = 5; align = 6; area = some (range 3 4 ∷ range 6 7 ∷ []) } ∷ record { size = 7; align = 8; area = none } ∷ []
unfolding tabulate
rows = refl

-- a plan of two cells: its counts, its offsets, its cells' rows (size, align) and its items' (cell, present, first, count), which are 0, 0, 0 without area
pub plan : (tallied (record { cells = record { size = 15; align = 8; area = none } ∷ record { size = 3; align = 2; area = none } ∷ []; cell = λ i. i; probes = 9 }) ≡ record { cells = 2; probes = 9; depth = 20 })
    × (cell_offsets (record { cells = record { size = 15; align = 8; area = none } ∷ record { size = 3; align = 2; area = none } ∷ []; cell = λ i. i; probes = 9 }) ≡ negsuc 15 ∷ negsuc 19 ∷ [])
    × (cell_rows (record { cells = record { size = 16; align = 8; area = none } ∷ record { size = 4; align = 2; area = none } ∷ []; cell = λ i. i; probes = 9 }) ≡ 16 ∷ 8 ∷ 4 ∷ 2 ∷ [])
    × (item_rows (5 ∷ 6 ∷ 7 ∷ 1 ∷ 2 ∷ 7 ∷ 8 ∷ 0 ∷ 9 ∷ 9 ∷ []) (record { cells = []; cell = λ i. i + 3; probes = 9 }) ≡ 3 ∷ 1 ∷ 1 ∷ 2 ∷ 4 ∷ 0 ∷ 0 ∷ 0 ∷ [])
unfolding tabulate flat round_up depth_before
plan = (refl, refl, refl, refl)
