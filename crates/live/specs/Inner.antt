-- What the functions here promise each other. No public promise names these.
use Rattle.std.specs.Prelude.{ℕ, ◌+◌, ◌≤◌, ◌<◌, ◌≡◌, List, get_or}
use Rattle.words.specs.Inner.{part, piece_register}
use Rattle.words.specs.Widths.{piece_count}
use Rattle.sorting.specs.Inner.{ranked}
use Rattle.ranges.specs.Inner.{unpacked}
use Rattle.graph.specs.Inner.Work.{Within}
use Rattle.carrying.specs.Carried.{pieces_of, live_pieces}

-- Live pieces in a work space: all of them in order by register, and the ranges of one register.

-- the register of piece i, of rows `R,register,start,end`
abbrev pub register_of : List ℕ → ℕ → ℕ
register_of pieces i = piece_register pieces i

-- from `at` on stand the registers with the indices of their pieces, in order
pub record InOrder (pieces : List ℕ) (at : ℕ) (w : List ℕ) : Type 0 where
  pub keys : (k : ℕ) → k < piece_count pieces → get_or w (at + k) 0 ≡ get_or (ranked (register_of pieces) (piece_count pieces)) k 0

pub record PutInOrder (pieces : List ℕ) (at : ℕ) (w₀ w : List ℕ) : Type 0 where
  pub kept : Within at (at + piece_count pieces) w₀ w
  pub order : InOrder pieces at w

-- the register's live pieces stand from `to` on
pub record Fetched (pieces : List ℕ) (register to : ℕ) (w₀ w : List ℕ) (r : ℕ) : Type 0 where
  pub kept : Within to (to + r) w₀ w
  pub count : r ≤ piece_count pieces
  pub is : unpacked (part to r w) ≡ live_pieces (pieces_of pieces) register
