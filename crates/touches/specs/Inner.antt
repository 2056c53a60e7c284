-- What the functions here promise each other. No public promise names these.
use Rattle.std.specs.Prelude.{ℕ, zero, suc, ◌+◌, ◌*◌, ◌≤◌, ◌<◌, ◌≡◌, cond, List, [], ◌∷◌, ◌++◌, length, get_or, eqb}
use Rattle.words.specs.Inner.{part, inst_placed, inst_early, inst_late, mention_count}
use Rattle.words.specs.Widths.{inst_count, mention_width, piece_count}
use Rattle.ranges.specs.declared.Range.{Range}
use Rattle.ranges.specs.Points.{range}
use Rattle.ranges.specs.Inner.{pack, unpacked}
use Rattle.graph.specs.Inner.Work.{Within}
use Rattle.carrying.specs.Lists.{gather}
use Rattle.carrying.specs.Insts.{is_set}
use Rattle.carrying.specs.Carried.{pieces_of, live_pieces}
use Rattle.reach.specs.Inner.{latest, row_local}

-- Document 01, "touches: live pieces of carried registers, and early to late of each listed instruction": those of one local in the work space.

-- the live pieces of the registers, one register's behind another's, stand from `to` on
pub record Gathered (pieces : List ℕ) (from count to : ℕ) (w₀ w : List ℕ) (r : ℕ) : Type 0 where
  pub kept : Within to (to + r) w₀ w
  pub count_le : r ≤ piece_count pieces
  pub is : unpacked (part to r w) ≡ gather (live_pieces (pieces_of pieces)) (part from count w₀)

-- early to late of the instruction of entry a
abbrev pub listed_at : List ℕ → List ℕ → ℕ → Range
listed_at insts addresses a = range (inst_early insts (get_or addresses (mention_width * a) 0)) (inst_late insts (get_or addresses (mention_width * a) 0))

-- of the first n rows those of local l, the last first: what each of them gives
unfoldable pub down_by : (ℕ → ℕ) → ℕ → (ℕ → List ℕ) → ℕ → List ℕ
down_by f l g zero = []
down_by f l g (suc n) = cond (eqb (f n) l) (g n) [] ++ down_by f l g n

-- an address entry gives its instruction's points, as one word
abbrev pub entry_at : List ℕ → List ℕ → ℕ → List ℕ
entry_at insts addresses a = pack (listed_at insts addresses a) ∷ []

-- an end gives its instruction's early point; "an end at an unplaced instruction is no end of its local"
abbrev pub end_at : List ℕ → List ℕ → ℕ → List ℕ
end_at insts ends k =
    cond (is_set (inst_placed insts (get_or ends (mention_width * k) 0))) (inst_early insts (get_or ends (mention_width * k) 0) ∷ []) []

-- the local's rows, each of an instruction and a local, are a chain, the last first, and there is room for a word a row
pub record Linked (insts rows : List ℕ) (heads nexts l to : ℕ) (w : List ℕ) : Type 0 where
  pub found : (a : ℕ) → a < mention_count rows → get_or rows (mention_width * a) 0 < inst_count insts
  pub head_fits : heads + l < to
  pub nexts_fit : nexts + mention_count rows ≤ to
  pub room : to + mention_count rows ≤ length w
  pub head : get_or w (heads + l) 0 ≡ latest (row_local rows) l (mention_count rows)
  pub next : (a : ℕ) → a < mention_count rows → row_local rows a ≡ l → get_or w (nexts + a) 0 ≡ latest (row_local rows) l a

-- what the local's rows give stands from `to` on
pub record Listed (rows : List ℕ) (g : ℕ → List ℕ) (l to : ℕ) (w₀ w : List ℕ) (r : ℕ) : Type 0 where
  pub kept : Within to (to + r) w₀ w
  pub count_le : r ≤ mention_count rows
  pub is : part to r w ≡ down_by (row_local rows) l g (mention_count rows)
