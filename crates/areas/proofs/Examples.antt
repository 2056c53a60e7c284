-- Moves and slots on small records, by computation.
use Prim.Native.Nat.{ℕ}
use mathlib.Core.Path.{◌≡◌, refl}
use mathlib.Core.Option.{some, none}
use mathlib.Core.List.{List, [], ◌∷◌}
use Rattle.ranges.specs.Points.{range}
use Rattle.ranges.specs.Merged.{insert, sort, join, merged}
use Rattle.graph.specs.Line.{Stretch, place_in}
use Rattle.carrying.specs.Lists.{keep, gather}
use Rattle.carrying.specs.Carried.{Piece}
use Rattle.areas.specs.Slots.{Assigned, Move, moved, spilled, slot_area}

-- ---- moves and slots

abbrev blocks : List Stretch
blocks = record { number = 0; start = 3; end = 9 } ∷ []

abbrev move : ℕ → ℕ → ℕ → Move
move k to from = record { kind = k; number = 0; to = to; from = from }

-- against the Rust, 12: a slot's area may reach outside the blocks; slot 7 is no slot
pub outside : moved 20 blocks [] (move 2 0 7 ∷ move 3 7 0 ∷ []) 0 ≡ range 2 4 ∷ range 8 10 ∷ []
unfolding gather place_in
outside = refl

-- "max(p−1, 0) to min(p+1, points)"; a slot moved to itself is covered twice
pub edges : moved 9 (record { number = 0; start = 0; end = 9 } ∷ []) [] (move 2 0 0 ∷ move 3 1 0 ∷ []) 0 ≡ range 0 1 ∷ range 0 1 ∷ range 8 9 ∷ []
unfolding gather place_in
edges = refl

abbrev to_slot : ℕ → ℕ → Assigned
to_slot r s = record { register = r; slot = s }

-- 4: the last assignment that names the slot
pub last_register : spilled (to_slot 1 0 ∷ to_slot 2 0 ∷ to_slot 3 1 ∷ []) 0 ≡ some 2
unfolding spilled
last_register = refl

abbrev live : List Piece
live = record { register = 1; start = 5; end = 6 } ∷ record { register = 1; start = 4; end = 5 } ∷ []

-- the pieces of the register and the moves, one range where they touch; no register but moves: those; neither: none
pub slot_areas : (slot_area live (some 1) (range 8 10 ∷ []) ≡ some (range 4 6 ∷ range 8 10 ∷ [])) × (slot_area live (some 1) (range 7 9 ∷ []) ≡ some (range 4 9 ∷ []))
    × (slot_area live none (range 8 10 ∷ []) ≡ some (range 8 10 ∷ [])) × (slot_area live none [] ≡ none)
unfolding insert sort join merged keep
slot_areas = (refl, refl, refl, refl)

-- 5: a register with no live piece gives none, although moves exist
pub no_piece : slot_area live (some 2) (range 8 10 ∷ []) ≡ none
unfolding keep
no_piece = refl
