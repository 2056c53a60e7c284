-- ★2 to ★4 and ★9, and document 02's example of a layout, of the definitions.
use mathlib.Core.Path.{◌≡◌, refl}
use mathlib.Core.Bool.{true, false}
use mathlib.Core.Option.{some}
use mathlib.Core.List.{List, [], ◌∷◌}
use lib.IntN.{negsuc}
use lib.ListN.{length}
use Rattle.refusals.specs.Verdicts.{first, in_order, scan, Fine}
use Rattle.words.specs.Rows.{tabulate}
use Rattle.ranges.specs.Points.{range}
use Rattle.ranges.specs.Merged.{insert as insertRange, sort, join, merged, meets, clashes}
use Rattle.fitting.specs.Wants.{Want, insert, ordered, order_of}
use Rattle.fitting.specs.Plan.{lowest, fit, plan_of}
use Rattle.fitting.specs.Queries.{Room}
use Rattle.fitting.specs.Layout.{round_up, depth_before, depth_of, offsets_of, among_powers, layout_verdict}

pub star_2 : merged (range 5 9 ∷ range 1 5 ∷ range 10 12 ∷ []) ≡ range 1 12 ∷ []
unfolding insertRange sort join merged
star_2 = refl

pub star_3 : clashes (range 1 4 ∷ []) (range 4 6 ∷ []) ≡ true
unfolding meets clashes
star_3 = refl

pub star_4 : clashes (range 1 4 ∷ []) (range 5 6 ∷ []) ≡ false
unfolding meets clashes
star_4 = refl

-- "three wants with areas that don't clash"
abbrev pub three : List Want
three =
    record { size = 8; align = 8; area = some (range 0 1 ∷ []) } ∷ record { size = 8; align = 8; area = some (range 2 3 ∷ []) }
    ∷ record { size = 8; align = 8; area = some (range 4 5 ∷ []) } ∷ []

pub star_9 : (length (plan_of three 1 (order_of three)).cells ≡ 2) × ((plan_of three 1 (order_of three)).probes ≡ 1) × (length (plan_of three 0 (order_of three)).cells ≡ 3)
unfolding insertRange sort join merged meets clashes insert ordered lowest fit
star_9 = (refl, refl, refl)

-- "cells 8/8, 4/4, 8/8 lie at −8, −12, −24", and the depth is 24, "where document 01 had 20"
abbrev pub laid : List Room
laid = record { size = 8; align = 8 } ∷ record { size = 4; align = 4 } ∷ record { size = 8; align = 8 } ∷ []

pub layout : (offsets_of laid ≡ negsuc 7 ∷ negsuc 11 ∷ negsuc 23 ∷ []) × (depth_of laid ≡ 24) × (layout_verdict laid ≡ Fine)
unfolding tabulate round_up depth_before among_powers layout_verdict in_order first scan
layout = (refl, refl, refl)
