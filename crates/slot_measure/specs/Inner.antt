-- What the functions here promise each other. No public promise names these.
use Rattle.std.specs.Prelude.{ℕ, ◌+◌, ◌≤◌, ◌<◌, ◌-◌, ◌^◌, ◌≡◌, List, [], length, get_or, ◌⊎◌}
use Rattle.std.proofs.Math.Option.{Option}
use Rattle.words.specs.Widths.{block_count, piece_count, move_count}
use Rattle.ranges.specs.declared.Range.{Range}
use Rattle.graph.specs.Line.{blocks_of, Sound}
use Rattle.graph.specs.Inner.Work.{Table, Within}
use Rattle.carrying.specs.Insts.{insts_of}
use Rattle.carrying.specs.Carried.{pieces_of}
use Rattle.areas.specs.Slots.{moves_of, moved, move_verdict, slot_area}
use Rattle.live.specs.Inner.{InOrder}
use Rattle.slot_spots.specs.declared.Places.{Places}
use Rattle.slot_spots.specs.Inner.{held_word, Laid, Chains}
use Rattle.area_measure.specs.declared.Listing.{Listing}
use Rattle.area_measure.specs.Inner.Locals.{word_of, ListedBy}
use Rattle.words.specs.Inner.{part}
use Rattle.ranges.specs.Inner.{unpacked}
use Rattle.areas.specs.Job.{ranges_in}
use Rattle.slot_areas.specs.declared.Found.{Found}
use Rattle.slot_areas.specs.Inner.{Stands}
use Rattle.ranges.specs.Points.{listed}
use Rattle.refusals.specs.Verdicts.{Fine}

-- The areas of all slots of a job, behind those of its locals.

-- the words that one slot's area is made in, and one more
abbrev pub most_for : List ℕ → List ℕ → ℕ
most_for moves pieces = move_count moves + move_count moves + piece_count pieces + 1

-- the slots' registers, moves and live pieces stand behind the items, of which the slots' begin at `first`
pub record Ready (blocks insts moves pieces : List ℕ) (p : Places) (keys held : ℕ) (o : Listing) (first : ℕ) (w : List ℕ) : Type 0 where
  pub sound : Sound (blocks_of blocks)
  pub fine : move_verdict (blocks_of blocks) (insts_of insts []) (moves_of moves) ≡ Fine
  pub table : Table (blocks_of blocks) p.table w
  pub laid : Laid p (block_count blocks) (move_count moves) w
  pub chains : Chains p moves w
  pub order : InOrder pieces keys w
  pub few_pieces : piece_count pieces ≤ 65536
  pub few_moves : move_count moves ≤ 65536
  pub areas_fit : o.areas + o.room ≤ o.items
  pub items_fit : o.items + first + p.slots ≤ keys
  pub keys_fit : keys + piece_count pieces ≤ held
  pub held_fits : held + p.slots ≤ p.table
  pub fits : p.to + move_count moves + move_count moves + piece_count pieces ≤ length w
  pub held_small : (s : ℕ) → s < p.slots → get_or w (held + s) 0 ≤ 4294967296

-- nothing has changed but the areas, the items, and the words that areas are made in
pub record Spared (moves pieces : List ℕ) (p : Places) (keys : ℕ) (o : Listing) (w₀ w : List ℕ) : Type 0 where
  pub len : length w ≡ length w₀
  pub below : (i : ℕ) → i < o.areas → get_or w i 0 ≡ get_or w₀ i 0
  pub between : (i : ℕ) → keys ≤ i → i < p.to → get_or w i 0 ≡ get_or w₀ i 0
  pub past : (i : ℕ) → p.to + move_count moves + move_count moves + piece_count pieces ≤ i → get_or w i 0 ≡ get_or w₀ i 0

-- slot s, the next: its area stands behind the `total` ranges so far, where it fits, and its word in the table
pub record Next (points : ℕ) (blocks insts moves pieces : List ℕ) (p : Places) (keys held : ℕ) (o : Listing) (first s total : ℕ) (w₀ w : List ℕ) (r : ℕ) : Type 0 where
  pub spared : Spared moves pieces p keys o w₀ w
  pub most : r ≤ total + most_for moves pieces
  pub listed : (A : ℕ → Option (List Range)) (a : Option ℕ) → get_or w₀ (held + s) 0 ≡ held_word a
      → A (first + s) ≡ slot_area (pieces_of pieces) a (moved points (blocks_of blocks) (insts_of insts []) (moves_of moves) s)
      → ListedBy word_of o A (first + s) total w₀ → ListedBy word_of o A (first + s + 1) r w

-- by the registers a, A has the areas of the slots behind those of the first items
abbrev pub AreasBy : ℕ → List ℕ → List ℕ → List ℕ → List ℕ → ℕ → ℕ → (ℕ → Option (List Range)) → (ℕ → Option ℕ) → Type 0
AreasBy points blocks insts moves pieces first slots A a =
    (s : ℕ) → s < slots → A (first + s) ≡ slot_area (pieces_of pieces) (a s) (moved points (blocks_of blocks) (insts_of insts []) (moves_of moves) s)

-- a word a slot: the register that it holds
abbrev pub HeldBy : ℕ → ℕ → List ℕ → (ℕ → Option ℕ) → Type 0
HeldBy held slots w a = (s : ℕ) → s < slots → get_or w (held + s) 0 ≡ held_word (a s)

-- the areas of all slots
pub record MeasuredSlots (points : ℕ) (blocks insts moves pieces : List ℕ) (p : Places) (keys held : ℕ) (o : Listing) (first total : ℕ) (w₀ w : List ℕ) (r : ℕ) : Type 0 where
  pub spared : Spared moves pieces p keys o w₀ w
  pub listed : (A : ℕ → Option (List Range)) (a : ℕ → Option ℕ) → HeldBy held p.slots w₀ a → AreasBy points blocks insts moves pieces first p.slots A a
      → ListedBy word_of o A first total w₀ → ListedBy word_of o A (first + p.slots) r w

-- A slot's area by the register that it holds; an area behind those so far, and its item's word.

-- the area of a slot, whatever register its word stands for, in the room of two words a move and a word a live piece; nothing else has changed
pub record SlotIn (points : ℕ) (blocks insts moves pieces : List ℕ) (held slot to : ℕ) (w₀ w : List ℕ) (f : Found) : Type 0 where
  pub kept : Within to (to + move_count moves + move_count moves + piece_count pieces) w₀ w
  pub low : to ≤ f.at
  pub high : f.at + f.plus ≤ to + move_count moves + move_count moves + piece_count pieces + 1
  pub stands : (a : Option ℕ) → get_or w₀ (held + slot) 0 ≡ held_word a
      → Stands (slot_area (pieces_of pieces) a (moved points (blocks_of blocks) (insts_of insts []) (moves_of moves) slot)) w f

-- the areas and the items stand before what areas are made in, and each number fits half a word
pub record Placeable (o : Listing) (item : ℕ) (f : Found) (total : ℕ) (w : List ℕ) : Type 0 where
  pub areas_fit : o.areas + o.room ≤ o.items
  pub items_fit : o.items + item < f.at
  pub item_in : o.items + item < length w
  pub fits : f.at + f.plus ≤ length w + 1
  pub small : total + f.plus < 2 ^ 32

-- the area stands behind the `total` ranges so far, where it fits, and its word in the table; nothing else has changed
pub record Placed (o : Listing) (item : ℕ) (f : Found) (total : ℕ) (w₀ w : List ℕ) (r : ℕ) : Type 0 where
  pub len : length w ≡ length w₀
  pub least : total ≤ r
  pub most : r ≤ total + f.plus
  pub same : (i : ℕ) → (i < o.areas + total) ⊎ (o.areas + o.room ≤ i) → (i ≡ o.items + item → ⊥) → get_or w i 0 ≡ get_or w₀ i 0
  pub count : (a : Option (List Range)) → Stands a w₀ f → r ≡ total + ranges_in a
  pub word : (a : Option (List Range)) → Stands a w₀ f → get_or w (o.items + item) 0 ≡ word_of total a
  pub put : (a : Option (List Range)) → Stands a w₀ f → r ≤ o.room → unpacked (part (o.areas + total) (r - total) w) ≡ listed a
