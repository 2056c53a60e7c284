-- ★5 to ★8, of the definitions.
use Prim.Native.Nat.{ℕ}
use mathlib.Core.Path.{◌≡◌, refl}
use mathlib.Core.List.{List, [], ◌∷◌}
use Rattle.ranges.specs.Points.{range}
use Rattle.ranges.specs.Merged.{insert, sort, join, merged, joined}
use Rattle.graph.specs.Paths.{Edge, edge}
use Rattle.graph.specs.Line.{Stretch}
use Rattle.graph.specs.Rounds.{fed, round}
use Rattle.carrying.specs.Lists.{any, keep, gather}
use Rattle.areas.specs.Blocks.{Graph, holding, until}
use Rattle.areas.specs.Pieces.{join_each, line_pieces, end_line, plain_area, ending_area}

abbrev block : ℕ → ℕ → ℕ → Stretch
block n s e = record { number = n; start = s; end = e }

-- "blocks 0–9, 10–19, 20–29"
abbrev pub line : List Edge → Graph
line es = record { blocks = block 0 0 9 ∷ block 1 10 19 ∷ block 2 20 29 ∷ []; edges = es }

-- "edges 0 to 1, 1 to 2"
abbrev pub straight : Graph
straight = line (edge 0 1 ∷ edge 1 2 ∷ [])

pub star_5 : plain_area straight (range 12 13 ∷ []) ≡ range 12 13 ∷ []
unfolding insert sort join merged joined fed round any keep gather holding join_each line_pieces plain_area
star_5 = refl

pub star_5_loop : plain_area (line (edge 0 1 ∷ edge 1 2 ∷ edge 1 1 ∷ [])) (range 12 13 ∷ []) ≡ range 10 19 ∷ []
unfolding insert sort join merged joined fed round any keep gather holding join_each line_pieces plain_area
star_5_loop = refl

pub star_6 : plain_area straight (range 2 3 ∷ range 24 25 ∷ []) ≡ range 2 25 ∷ []
unfolding insert sort join merged joined fed round any keep gather holding join_each line_pieces plain_area
star_6 = refl

pub star_7 : ending_area straight (range 12 13 ∷ []) (15 ∷ []) ≡ range 12 15 ∷ []
unfolding insert sort join merged fed round any keep gather holding until end_line ending_area
star_7 = refl

pub star_8 : ending_area straight (range 12 13 ∷ []) (12 ∷ []) ≡ range 12 29 ∷ []
unfolding insert sort join merged fed round any keep gather holding until end_line ending_area
star_8 = refl

-- an end at a block's last point: the block is still left (block 0–9: touch 2–3, end 9)
pub end_at_last : ending_area straight (range 2 3 ∷ []) (9 ∷ 15 ∷ []) ≡ range 2 15 ∷ []
unfolding insert sort join merged fed round any keep gather holding until end_line ending_area
end_at_last = refl

-- a between-piece is never joined on, but merged with what it touches: without edges 5–9, 10–19, 20–25 become one range
pub between_touches : plain_area (line []) (range 5 25 ∷ []) ≡ range 5 25 ∷ []
unfolding insert sort join merged joined fed round any keep gather holding join_each line_pieces plain_area
between_touches = refl

-- a block between is left, whatever ends in it: over the edge 1 to 0 block 0 is arrived at
pub between_left : ending_area (line (edge 1 0 ∷ [])) (range 5 25 ∷ []) (15 ∷ []) ≡ range 0 29 ∷ []
unfolding insert sort join merged fed round any keep gather holding until end_line ending_area
between_left = refl

-- a block with an end is not passed: over 0 to 1 and 1 to 2 block 2 is not arrived at
pub not_passed : ending_area straight (range 2 3 ∷ []) (15 ∷ []) ≡ range 2 15 ∷ []
unfolding insert sort join merged fed round any keep gather holding until end_line ending_area
not_passed = refl
