-- What the functions here promise each other. No public promise names these.
use Rattle.std.specs.Prelude.{ℕ, ◌+◌, ◌-◌, ◌≤◌, ◌≡◌, cond, List, [], ◌∷◌, ◌++◌, length, eqb}
use Rattle.words.specs.Inner.{part, move_to, move_from}
use Rattle.words.specs.Widths.{move_count}
use Rattle.ranges.specs.declared.Range.{Range}
use Rattle.ranges.specs.Inner.{unpacked}
use Rattle.graph.specs.Line.{Stretch, blocks_of}
use Rattle.graph.specs.Inner.Work.{Within}
use Rattle.carrying.specs.Lists.{gather}
use Rattle.carrying.specs.Insts.{Inst, insts_of}
use Rattle.areas.specs.Slots.{Move, moves_of, around, position}
use Rattle.chains.specs.Inner.{Chain}
pub use Rattle.slot_registers.specs.Inner.{held_word}
use Rattle.slot_spots.specs.declared.Places.{Places}

-- Document 01, "Areas of items": what slots have of their own in the work space, their registers and their moves.

-- "a move at point p covers max(p−1, 0) to min(p+1, points)"
abbrev pub cover_of : ℕ → List Stretch → List Inst → Move → Range
cover_of points bs is m = around points (position bs is m.kind m.number)

-- of `moved` of a slot, what the moves to it cover, and what the moves from it cover
abbrev pub moved_to : ℕ → List Stretch → List Inst → List Move → ℕ → List Range
moved_to points bs is ms s = gather (λ m. cond (eqb m.to s) (cover_of points bs is m ∷ []) []) ms

abbrev pub moved_from : ℕ → List Stretch → List Inst → List Move → ℕ → List Range
moved_from points bs is ms s = gather (λ m. cond (eqb m.from s) (cover_of points bs is m ∷ []) []) ms

-- the regions stand one behind another, of b blocks and m moves
pub record Laid (p : Places) (b m : ℕ) (w : List ℕ) : Type 0 where
  pub table_fits : p.table + b ≤ p.heads
  pub heads_fit : p.heads + p.slots + p.slots ≤ p.nexts
  pub nexts_fit : p.nexts + m + m ≤ p.to
  pub fits : p.to + m + m ≤ length w

-- the chains of the moves by the slot that they go to, and behind them by the one that they come from
pub record Chains (p : Places) (moves w : List ℕ) : Type 0 where
  pub to_chain : Chain (λ i. move_to moves i) (move_count moves) p.slots p.heads p.nexts w
  pub from_chain : Chain (λ i. move_from moves i) (move_count moves) p.slots (p.heads + p.slots) (p.nexts + move_count moves) w

pub record Chained (p : Places) (moves w₀ w : List ℕ) : Type 0 where
  pub kept : Within p.heads (p.nexts + move_count moves + move_count moves) w₀ w
  pub chains : Chains p moves w

-- what the slot's moves cover stands last in the room of two words a move, and nothing else has changed
pub record Fetched (points : ℕ) (blocks insts moves : List ℕ) (slot to : ℕ) (w₀ w : List ℕ) (r : ℕ) : Type 0 where
  pub kept : Within to (to + move_count moves + move_count moves) w₀ w
  pub few : r ≤ move_count moves + move_count moves
  pub is : unpacked (part (to + move_count moves + move_count moves - r) r w)
      ≡ moved_from points (blocks_of blocks) (insts_of insts []) (moves_of moves) slot ++ moved_to points (blocks_of blocks) (insts_of insts []) (moves_of moves) slot
