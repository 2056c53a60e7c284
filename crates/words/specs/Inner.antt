-- What the functions here promise each other. No public promise names these.
use Rattle.std.specs.Prelude.{◌≡◌, List, ℕ, ◌+◌, ◌≤◌, ◌<◌, length, get_or, take, drop, set, Bool, true, false}
use Rattle.words.specs.Rows.{row_count, field}
use Rattle.words.specs.Widths.{block_width, edge_width, inst_width, operand_width, local_width, mention_width, piece_width, assigned_width, move_width, touch_width, stop_width, part_width, want_width}

-- the n numbers from `at` on are f's, and the lists agree elsewhere
pub record Region (w₀ w : List ℕ) (at n : ℕ) (f : ℕ → ℕ) : Type 0 where
  pub len : length w ≡ length w₀
  pub inside : (x i : ℕ) → x ≡ at + i → i < n → get_or w x 0 ≡ f i
  pub before : (i : ℕ) → i < at → get_or w i 0 ≡ get_or w₀ i 0
  pub after : (i : ℕ) → at + n ≤ i → get_or w i 0 ≡ get_or w₀ i 0

-- the n numbers from `at` on, as a list
abbrev pub part : ℕ → ℕ → List ℕ → List ℕ
part at n w = take n (drop at w)

-- the n numbers from `at` on are the same in both lists
pub record Kept (w₀ w : List ℕ) (at n : ℕ) : Type 0 where
  pub same : (x : ℕ) → at ≤ x → x < at + n → get_or w x 0 ≡ get_or w₀ x 0

-- the n places from a on and the n from b on have none in common
pub data Disjoint (a b n : ℕ) : Type 0 where
  below : a + n ≤ b → Disjoint a b n
  above : b + n ≤ a → Disjoint a b n

-- a row of four numbers stored
abbrev pub row_put : List ℕ → ℕ → ℕ → ℕ → ℕ → ℕ → List ℕ
row_put l at a b c d = set (set (set (set l at a) (at + 1) b) (at + 2) c) (at + 3) d

-- Where a test that holds at the front stops holding.

-- of the indices below n the test holds at the first r, and at no other
pub record Splits (t : ℕ → Bool) (n r : ℕ) : Type 0 where
  pub within : r ≤ n
  pub holds : (i : ℕ) → i < r → t i ≡ true
  pub fails : (i : ℕ) → r ≤ i → i < n → t i ≡ false

-- of f's first n values none is above the next
abbrev pub Rising : (ℕ → ℕ) → ℕ → Type 0
Rising f n = (k : ℕ) → k + 1 < n → f k ≤ f (k + 1)

-- no element is above the next
abbrev pub Ordered : List ℕ → Type 0
Ordered l = Rising (λ k. get_or l k 0) (length l)

-- the elements at i and j change places
abbrev pub swapped : List ℕ → ℕ → ℕ → List ℕ
swapped a i j = set (set a i (get_or a j 0)) j (get_or a i 0)

-- the block's number
abbrev pub block_number : List ℕ → ℕ → ℕ
block_number s i = field block_width s i 0

-- the number of the block left
abbrev pub edge_from : List ℕ → ℕ → ℕ
edge_from s i = field edge_width s i 0

-- the number of the block entered
abbrev pub edge_into : List ℕ → ℕ → ℕ
edge_into s i = field edge_width s i 1

-- 1 where it is placed
abbrev pub inst_placed : List ℕ → ℕ → ℕ
inst_placed s i = field inst_width s i 0

-- its block's number
abbrev pub inst_block : List ℕ → ℕ → ℕ
inst_block s i = field inst_width s i 1

-- its early point
abbrev pub inst_early : List ℕ → ℕ → ℕ
inst_early s i = field inst_width s i 2

-- its late point
abbrev pub inst_late : List ℕ → ℕ → ℕ
inst_late s i = field inst_width s i 3

-- its `lea` flag
abbrev pub inst_lea : List ℕ → ℕ → ℕ
inst_lea s i = field inst_width s i 4

-- its memory-mode flag
abbrev pub inst_mem : List ℕ → ℕ → ℕ
inst_mem s i = field inst_width s i 5

-- its base's operand position
abbrev pub inst_base : List ℕ → ℕ → ℕ
inst_base s i = field inst_width s i 6

-- its index's operand position
abbrev pub inst_index : List ℕ → ℕ → ℕ
inst_index s i = field inst_width s i 7

-- 1 where it is a def
abbrev pub operand_def : List ℕ → ℕ → ℕ
operand_def s i = field operand_width s i 0

-- its register
abbrev pub operand_register : List ℕ → ℕ → ℕ
operand_register s i = field operand_width s i 1

-- the local's size
abbrev pub local_size : List ℕ → ℕ → ℕ
local_size s i = field local_width s i 0

-- its alignment
abbrev pub local_align : List ℕ → ℕ → ℕ
local_align s i = field local_width s i 1

-- its size and its alignment
abbrev pub slot_size : List ℕ → ℕ → ℕ
slot_size s i = get_or s i 0

-- how many rows
abbrev pub mention_count : List ℕ → ℕ
mention_count s = row_count mention_width s

-- the instruction
abbrev pub mention_inst : List ℕ → ℕ → ℕ
mention_inst s i = field mention_width s i 0

-- the local
abbrev pub mention_local : List ℕ → ℕ → ℕ
mention_local s i = field mention_width s i 1

-- whose piece it is
abbrev pub piece_register : List ℕ → ℕ → ℕ
piece_register s i = field piece_width s i 0

-- its first point
abbrev pub piece_start : List ℕ → ℕ → ℕ
piece_start s i = field piece_width s i 1

-- its last point
abbrev pub piece_end : List ℕ → ℕ → ℕ
piece_end s i = field piece_width s i 2

-- the register
abbrev pub assigned_register : List ℕ → ℕ → ℕ
assigned_register s i = field assigned_width s i 0

-- its slot
abbrev pub assigned_slot : List ℕ → ℕ → ℕ
assigned_slot s i = field assigned_width s i 1

-- which of the four kinds of position
abbrev pub move_kind : List ℕ → ℕ → ℕ
move_kind s i = field move_width s i 0

-- the instruction or the block
abbrev pub move_number : List ℕ → ℕ → ℕ
move_number s i = field move_width s i 1

-- the slot that it goes to
abbrev pub move_to : List ℕ → ℕ → ℕ
move_to s i = field move_width s i 2

-- the slot that it comes from
abbrev pub move_from : List ℕ → ℕ → ℕ
move_from s i = field move_width s i 3

-- how many rows
abbrev pub touch_count : List ℕ → ℕ
touch_count s = row_count touch_width s

-- whose touch it is
abbrev pub touch_local : List ℕ → ℕ → ℕ
touch_local s i = field touch_width s i 0

-- its first point
abbrev pub touch_start : List ℕ → ℕ → ℕ
touch_start s i = field touch_width s i 1

-- its last point
abbrev pub touch_end : List ℕ → ℕ → ℕ
touch_end s i = field touch_width s i 2

-- how many rows
abbrev pub stop_count : List ℕ → ℕ
stop_count s = row_count stop_width s

-- whose end it is
abbrev pub stop_local : List ℕ → ℕ → ℕ
stop_local s i = field stop_width s i 0

-- where it is
abbrev pub stop_point : List ℕ → ℕ → ℕ
stop_point s i = field stop_width s i 1

-- how many rows
abbrev pub part_count : List ℕ → ℕ
part_count s = row_count part_width s

-- 0 where there is no area
abbrev pub part_present : List ℕ → ℕ → ℕ
part_present s i = field part_width s i 0

-- the area's first range
abbrev pub part_first : List ℕ → ℕ → ℕ
part_first s i = field part_width s i 1

-- how many ranges the area has
abbrev pub part_ranges : List ℕ → ℕ → ℕ
part_ranges s i = field part_width s i 2

-- the want's size
abbrev pub want_size : List ℕ → ℕ → ℕ
want_size s i = field want_width s i 0

-- its alignment
abbrev pub want_align : List ℕ → ℕ → ℕ
want_align s i = field want_width s i 1
