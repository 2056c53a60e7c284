-- Document 01, "Areas of items": when a point is in the area of an item of a job, and when an item has no area: of a local by paths, of a slot by
-- its moves and the live pieces of its register. No round, no row and no list of ranges is named here.
use Rattle.std.specs.Prelude.{ℕ, ◌+◌, ◌-◌, ◌≤◌, ◌<◌, ◌≡◌, ◌⊎◌, ◌≢◌, length}
use mathlib.Core.List.{List, ◌∷◌, ◌++◌, Memᴰ}
use Rattle.ranges.specs.declared.Range.{Range}
use Rattle.ranges.specs.Points.{range}
use Rattle.carrying.specs.Carried.{Mention, Piece, mentioned, Carries, ends_of}
use Rattle.areas.specs.Areas.{PlainPoint, EndPoint}
use Rattle.areas.specs.Slots.{Assigned, Move, position}
use Rattle.areas.specs.Job.{Job, graph_of, touches_in}
use Rattle.area_points.specs.Kinds.{IsUnfollowed, IsEnding, IsPlain}

-- "touches: live pieces of carried registers, and early to late of each listed instruction"; a register is carried by the least set, not by rounds
pub data Touch (J : Job) (l : ℕ) (t : Range) : Type 0 where
  of_piece : (p : Piece) → Memᴰ p J.pieces → Carries J.code l p.register → t ≡ range p.start p.end → Touch J l t
  of_entry : (m : Mention) → Memᴰ m J.code.addresses → m.local ≡ l → t ≡ range (mentioned J.code m).early (mentioned J.code m).late → Touch J l t

-- "the last register assigned to it": an assignment that names the slot, and none behind it does
pub record LastAssigned (list : List Assigned) (s r : ℕ) : Type 0 where
  pub before : List Assigned
  pub behind : List Assigned
  pub parted : list ≡ before ++ record { register = r; slot = s } ∷ behind
  pub last : (a : Assigned) → Memᴰ a behind → a.slot ≢ s

-- "no register": no assignment names the slot
abbrev pub Unassigned : List Assigned → ℕ → Type 0
Unassigned list s = (a : Assigned) → Memᴰ a list → a.slot ≢ s

-- a live piece of a register
pub record Lives (ps : List Piece) (r : ℕ) : Type 0 where
  pub piece : Piece
  pub listed : Memᴰ piece ps
  pub of : piece.register ≡ r

-- "its moves": those that go to the slot and those that come from it
pub record Moves (ms : List Move) (s : ℕ) : Type 0 where
  pub move : Move
  pub listed : Memᴰ move ms
  pub names : (move.to ≡ s) ⊎ (move.from ≡ s)

-- x is a point of the piece
pub record LiveAt (ps : List Piece) (r x : ℕ) : Type 0 where
  pub own : Lives ps r
  pub begun : own.piece.start ≤ x
  pub lasting : x ≤ own.piece.end

-- "a move at point p covers max(p−1, 0) to min(p+1, points)"
pub record MovedAt (J : Job) (s x : ℕ) : Type 0 where
  pub own : Moves J.moves s
  pub begun : position J.blocks J.code.insts own.move.kind own.move.number ≤ x + 1
  pub lasting : x ≤ position J.blocks J.code.insts own.move.kind own.move.number + 1
  pub inside : x ≤ J.points

-- x is in the area of slot s
pub data SlotPoint (J : Job) (s x : ℕ) : Type 0 where
  -- "area of the last register assigned to it"
  live : (r : ℕ) → LastAssigned J.assigned s r → LiveAt J.pieces r x → SlotPoint J s x
  -- "plus its moves"; "a register with no live piece gives none, moves or not"
  along : (r : ℕ) → LastAssigned J.assigned s r → Lives J.pieces r → MovedAt J s x → SlotPoint J s x
  -- "no register but moves: those"
  alone : Unassigned J.assigned s → MovedAt J s x → SlotPoint J s x

-- "else none. A register with no live piece gives none"
pub data SlotBare (J : Job) (s : ℕ) : Type 0 where
  unmoved : Unassigned J.assigned s → (Moves J.moves s → ⊥) → SlotBare J s
  dead : (r : ℕ) → LastAssigned J.assigned s r → (Lives J.pieces r → ⊥) → SlotBare J s

-- x is in the area of item i: "locals, then slots"
pub data ItemPoint (J : Job) (i x : ℕ) : Type 0 where
  plain : i < length J.locals → IsPlain J.code i → PlainPoint (graph_of J) (touches_in J i) x → ItemPoint J i x
  ending : i < length J.locals → IsEnding J.code i → EndPoint (graph_of J) (touches_in J i) (ends_of J.code i) x → ItemPoint J i x
  slot : length J.locals ≤ i → SlotPoint J (i - length J.locals) x → ItemPoint J i x

-- item i has no area: an unfollowed local, or a slot without area
pub data NoArea (J : Job) (i : ℕ) : Type 0 where
  unfollowed : i < length J.locals → IsUnfollowed J.code i → NoArea J i
  bare : length J.locals ≤ i → SlotBare J (i - length J.locals) → NoArea J i
