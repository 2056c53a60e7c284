-- What the functions here promise each other. No public promise names these.
use Rattle.std.specs.Prelude.{ℕ, suc, ◌+◌, ◌≤◌, ◌≡◌, List, []}
use Rattle.std.proofs.Math.Option.{Option, some, none}
use Rattle.words.specs.Inner.{part}
use Rattle.words.specs.Widths.{piece_count, move_count}
use Rattle.ranges.specs.declared.Range.{Range}
use Rattle.ranges.specs.Inner.{unpacked}
use Rattle.graph.specs.Line.{blocks_of}
use Rattle.graph.specs.Inner.Work.{Within}
use Rattle.carrying.specs.Insts.{insts_of}
use Rattle.carrying.specs.Carried.{Piece, pieces_of}
use Rattle.areas.specs.Slots.{moves_of, moved, slot_area}
use Rattle.slot_areas.specs.declared.Found.{Found}

-- Document 01, "Areas of items": a slot's area in the work space.

-- an area stands where it was found, of one range fewer than `plus`; with 0 there is none
pub record Stands (a : Option (List Range)) (w : List ℕ) (f : Found) : Type 0 where
  pub absent : f.plus ≡ 0 → a ≡ none
  pub present : (k : ℕ) → f.plus ≡ suc k → a ≡ some (unpacked (part f.at k w))

-- the area of a slot that no register is assigned to, whatever the live pieces, in the room of two words a move; nothing else has changed
pub record MovedIn (points : ℕ) (blocks insts moves : List ℕ) (slot to : ℕ) (w₀ w : List ℕ) (f : Found) : Type 0 where
  pub kept : Within to (to + move_count moves + move_count moves) w₀ w
  pub low : to ≤ f.at
  pub high : f.at + f.plus ≤ to + move_count moves + move_count moves + 1
  pub stands : (ps : List Piece) → Stands (slot_area ps none (moved points (blocks_of blocks) (insts_of insts []) (moves_of moves) slot)) w f

-- the area of a slot that the register was assigned to last, in the same room and a word a live piece past it
pub record HeldIn (points : ℕ) (blocks insts moves pieces : List ℕ) (register slot to : ℕ) (w₀ w : List ℕ) (f : Found) : Type 0 where
  pub kept : Within to (to + move_count moves + move_count moves + piece_count pieces) w₀ w
  pub low : to ≤ f.at
  pub high : f.at + f.plus ≤ to + move_count moves + move_count moves + piece_count pieces + 1
  pub stands : Stands (slot_area (pieces_of pieces) (some register) (moved points (blocks_of blocks) (insts_of insts []) (moves_of moves) slot)) w f
