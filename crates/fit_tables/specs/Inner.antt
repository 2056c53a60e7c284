-- What the functions of fitting promise each other: a cell's lists of ranges are linked, latest first, by their places in the order.
-- A place's list is its item's area, or its union with earlier lists of the cell.
use Rattle.std.specs.Prelude.{ℕ, zero, suc, ◌+◌, ◌-◌, ◌*◌, ◌/◌, ◌^◌, ◌<◌, ◌≤◌, ◌%◌, ◌≡◌, ◌⊎◌, Bool, true, false, ◌&&◌, ◌||◌, cond, List, [], ◌∷◌, length, get_or, set, eqb}
use Rattle.std.proofs.Math.Option.{Option, some, none}
use Rattle.ranges.specs.declared.Range.{Range}
use Rattle.ranges.specs.Points.{Upright, Apart, Point}
use Rattle.ranges.specs.Inner.{unpacked}
use Rattle.words.specs.Rows.{tabulate, flat}
use Rattle.words.specs.Inner.{part, want_size, want_align}
use Rattle.bits.specs.Bits.{bit_of, bit}
use Rattle.bits.specs.Inner.{Row}
use Rattle.fitting.specs.Wants.{Names, Want, want_at, order_of}
use Rattle.fitting.specs.Plan.{cell_at, joinable, Plan, put, plan_of}
use Rattle.fit_tables.specs.declared.Tables.{Tables}
use Rattle.fit_tables.specs.declared.Progress.{Progress}
use Rattle.fit_tables.specs.declared.Part.{Part}
use Rattle.fit_tables.specs.declared.Sample.{Sample}
use Rattle.fit_tables.specs.declared.Own.{Own}
use Rattle.fit_tables.specs.declared.Counts.{Counts}
use Rattle.words.specs.Widths.{want_present, want_first, want_ranges, range_start, range_end}
use Rattle.fit_tables.specs.WantTables.{item_row}

-- the places that a link leads to: a link is 0, or one more than a place
unfoldable pub places : (ℕ → ℕ) → ℕ → ℕ → List ℕ
places next zero m = []
places next (suc f) zero = []
places next (suc f) (suc q) = q ∷ places next f (next q)

-- links fall: the place that is linked comes before
abbrev pub chain : (ℕ → ℕ) → ℕ → List ℕ
chain next m = places next m m

abbrev pub Falls : (ℕ → ℕ) → ℕ → Type 0
Falls next k = (q : ℕ) → q < k → next q ≤ q

-- every member has an area, and none clashes
unfoldable pub allow : (ℕ → Option (List Range)) → List ℕ → List Range → Bool
allow area [] a = true
allow area (q ∷ ms) a = joinable (area q) a && allow area ms a

-- the ranges of a part of the work space
abbrev pub ranges_of : List ℕ → Part → List Range
ranges_of w a = unpacked (part a.from a.count w)

-- each cell has a row of `width` words from `end` on: bit b stands for the sample point b * step
pub record Gridded (w : List ℕ) (t : Tables) (width step : ℕ) : Type 0 where
  pub rows_le : t.end + t.n * width ≤ length w
  pub narrow : width ≤ 8
  pub some_step : 0 < step
  pub step_le : step ≤ 2 ^ 32

-- a bit is set only where the sample point is in the cell's area, so that no area with that point may join
pub record Marks (w : List ℕ) (rows width step : ℕ) (p : Plan) : Type 0 where
  pub sure : (c b : ℕ) → c < length p.cells → b < width * 64 → bit w (rows + c * width) b ≡ true
      → (a : List Range) → Upright a → Point a (b * step) → joinable (cell_at p.cells c).area a ≡ false

-- bits of the row at `row` from t on have been set, each for a sample point that is at most `end`; r is past t
pub record MarkedTo (w₀ w : List ℕ) (row t step end r : ℕ) : Type 0 where
  pub len : length w ≡ length w₀
  pub rest : (x : ℕ) → (x ≡ row + t / 64 → ⊥) → get_or w x 0 ≡ get_or w₀ x 0
  pub sound : (s : ℕ) → bit w row s ≡ true → (bit w₀ row s ≡ true) ⊎ ((t ≤ s) × (s * step ≤ end))
  pub past : t < r
  pub near : r ≤ t + 64

-- bits of the row at `row` have been set, each for a sample point of a; r is a word of the row
pub record Pointed (w₀ w : List ℕ) (row width step : ℕ) (a : List Range) (r : ℕ) : Type 0 where
  pub len : length w ≡ length w₀
  pub rest : (x : ℕ) → (x < row) ⊎ (row + width ≤ x) → get_or w x 0 ≡ get_or w₀ x 0
  pub sound : (t : ℕ) → t < width * 64 → bit w row t ≡ true → (bit w₀ row t ≡ true) ⊎ Point a (t * step)
  pub within : r < width

-- the same tables, with less room behind them
abbrev pub up_to : Tables → ℕ → Tables
up_to t rows = record { at = t.at; items = t.items; n = t.n; end = rows }

-- The wants' table in a work space, and what ordering leaves there.

-- a want's size and alignment in one word: the size above, the alignment in the low 32 bits
abbrev pub size_of : ℕ → ℕ
size_of x = x / 2 ^ 32

abbrev pub align_of : ℕ → ℕ
align_of x = x % 2 ^ 32

-- the n words from `at` on are the wants' sizes and alignments
pub record Sized (ws : List Want) (w : List ℕ) (at n : ℕ) : Type 0 where
  pub count : length ws ≡ n
  pub size : (i : ℕ) → i < n → (want_at ws i).size ≡ size_of (get_or w (at + i) 0)
  pub align : (i : ℕ) → i < n → (want_at ws i).align ≡ align_of (get_or w (at + i) 0)

-- a key that sorts by falling number, then by rising index
abbrev pub falling : ℕ → ℕ → ℕ
falling x i = (4294967295 - x) * 2 ^ 32 + i

-- the n words from `to` on list the wants' items in order; of the others only the n words after them change
pub record OrderedIn (w₀ w : List ℕ) (at n to : ℕ) : Type 0 where
  pub len : length w ≡ length w₀
  pub is : (ws : List Want) → Sized ws w₀ at n → (k : ℕ) → k < n → get_or w (to + k) 0 ≡ get_or (order_of ws) k 0
  pub rest : (x : ℕ) → (x < to) ⊎ (to + (n + n) ≤ x) → get_or w x 0 ≡ get_or w₀ x 0

-- Wants and a plan in tables of one work space. The areas' ranges stand from `at` on, up to `items`; from there on eight tables of n words;
-- behind them, up to `end`, the cells' lists and rows of sample points.

-- where each table stands: the items' words from `items` on, a want's size and alignment, the order, and by cell the latest place
abbrev pub want_table : Tables → ℕ
want_table t = t.items + t.n

abbrev pub order_table : Tables → ℕ
order_table t = t.items + 2 * t.n

-- a word of a table: the order's, a cell's head, a place's link, its list, whose word is like an item's
abbrev pub order_at : List ℕ → Tables → ℕ → ℕ
order_at w t q = get_or w (order_table t + q) 0

-- the items in the order in which they stand in its table, and the plan of the wants in that order
abbrev pub order_in : List ℕ → Tables → List ℕ
order_in w t = tabulate t.n (order_at w t)

abbrev pub head_table : Tables → ℕ
head_table t = t.items + 3 * t.n

abbrev pub head_at : List ℕ → Tables → ℕ → ℕ
head_at w t c = get_or w (head_table t + c) 0

-- by place the one that it is linked to; by cell its size and alignment; by item its cell; by place its list
abbrev pub link_table : Tables → ℕ
link_table t = t.items + 4 * t.n

abbrev pub next_at : List ℕ → Tables → ℕ → ℕ
next_at w t q = get_or w (link_table t + q) 0

abbrev pub cell_table : Tables → ℕ
cell_table t = t.items + 5 * t.n

abbrev pub home_table : Tables → ℕ
home_table t = t.items + 6 * t.n

abbrev pub cell_in : List ℕ → Tables → ℕ → ℕ
cell_in w t k = get_or w (home_table t + order_at w t k) 0

-- the row of number `cells`, of those from `end` on, has joined that of the cell of the item at place k
pub record Joined (w₀ w : List ℕ) (t : Tables) (k width cells : ℕ) : Type 0 where
  pub row : Row w₀ w (t.end + cell_in w₀ t k * width) width (λ b. bit w₀ (t.end + cell_in w₀ t k * width) b || bit w₀ (t.end + cells * width) b)

abbrev pub list_table : Tables → ℕ
list_table t = t.items + 7 * t.n

abbrev pub list_at : List ℕ → Tables → ℕ → ℕ
list_at w t q = get_or w (list_table t + q) 0

-- the item i at place k of the order, with the area of word x, has entered cell c, whose size and alignment are now `word` and whose other lists `link` leads to
abbrev pub entered_in : List ℕ → Tables → ℕ → ℕ → ℕ → ℕ → ℕ → ℕ → List ℕ
entered_in w t k i c link word x =
    set (set (set (set (set w (link_table t + k) link) (head_table t + c) (k + 1)) (cell_table t + c) word) (home_table t + i) c) (list_table t + k) x

-- where the tables end
abbrev pub behind : Tables → ℕ
behind t = t.items + 8 * t.n

-- tables from `room` on, over areas from 0 on, with nothing behind them
abbrev pub tables_at : ℕ → ℕ → Tables
tables_at room n = record { at = 0; items = room; n = n; end = room + 8 * n }

-- an item's word: 0 where it has no area, else one more than its part of the areas, the first range above, the count in the low 32 bits
abbrev pub first_of : ℕ → ℕ
first_of x = (x - 1) / 2 ^ 32

abbrev pub count_of : ℕ → ℕ
count_of x = (x - 1) % 2 ^ 32

-- place k is linked to place q, both have a list, and there is room for the two together
pub record Meets (w : List ℕ) (t : Tables) (k q top : ℕ) : Type 0 where
  pub next : next_at w t k ≡ q + 1
  pub one : 0 < list_at w t k
  pub two : 0 < list_at w t q
  pub room : top + (count_of (list_at w t k) + count_of (list_at w t q)) ≤ t.end

-- the ranges of a part of the areas, which stand from `at` on
abbrev pub ranges_at : List ℕ → ℕ → ℕ → List Range
ranges_at w at x = unpacked (part (at + first_of x) (count_of x) w)

-- a list stands among the areas, or behind the tables and below `top`
pub record Listed (w : List ℕ) (t : Tables) (top x : ℕ) : Type 0 where
  pub inside : (t.at + (first_of x + count_of x) ≤ t.items) ⊎ ((behind t ≤ t.at + first_of x) × (t.at + (first_of x + count_of x) ≤ top))
  pub neat : Apart (ranges_at w t.at x)

-- the item at place k of the order: its area's ranges, and its cell
abbrev pub item_at : List ℕ → Tables → ℕ → List Range
item_at w t k = ranges_at w t.at (get_or w (t.items + order_at w t k) 0)

-- the row at `row` is that of the item at place k, if it has an area
pub record Drawn (w₀ w : List ℕ) (t : Tables) (k row width step : ℕ) (r : Own) : Type 0 where
  pub len : length w ≡ length w₀
  pub rest : (x : ℕ) → (x < row) ⊎ (row + width ≤ x) → get_or w x 0 ≡ get_or w₀ x 0
  pub sound : 0 < get_or w₀ (t.items + order_at w₀ t k) 0 → (b : ℕ) → b < width * 64 → bit w row b ≡ true → Point (item_at w₀ t k) (b * step)
  pub own : 0 < r.word → (r.at < width) × (r.word ≡ get_or w (row + r.at) 0) × (0 < get_or w₀ (t.items + order_at w₀ t k) 0)
  pub fits : r.at ≤ width

abbrev pub area_in : List ℕ → ℕ → ℕ → Option (List Range)
area_in w at x = cond (eqb x 0) none (some (ranges_at w at x))

abbrev pub area_at : List ℕ → Tables → ℕ → Option (List Range)
area_at w t q = area_in w t.at (list_at w t q)

-- the cell's members allow an area
abbrev pub opens : List ℕ → Tables → List Range → ℕ → Bool
opens w t a c = allow (area_at w t) (chain (next_at w t) (head_at w t c)) a

-- the first of `most` cells that does
pub record Probed (w : List ℕ) (t : Tables) (most : ℕ) (a : List Range) (r : ℕ) : Type 0 where
  pub within : r ≤ most
  pub hit : r < most → opens w t a r ≡ true
  pub miss : (c : ℕ) → c < r → opens w t a c ≡ false

-- a bit that a cell's word and an item's have in common rules the cell out
pub record Sure (w : List ℕ) (t : Tables) (s : Sample) (most : ℕ) (a : List Range) : Type 0 where
  pub inside : (c : ℕ) → c < most → 0 < s.word → s.base + c * s.width < length w
  pub rules : (c b : ℕ) → c < most → b < 64 → bit_of s.word b ≡ true → bit_of (get_or w (s.base + c * s.width) 0) b ≡ true → opens w t a c ≡ false

-- the wants that the tables hold
abbrev pub want_in : List ℕ → Tables → ℕ → Want
want_in w t i = record {
  size = size_of (get_or w (want_table t + i) 0);
  align = align_of (get_or w (want_table t + i) 0);
  area = area_in w t.at (get_or w (t.items + i) 0);
}

abbrev pub wants_in : List ℕ → Tables → List Want
wants_in w t = tabulate t.n (want_in w t)

abbrev pub placed_in : List ℕ → Tables → ℕ → Plan
placed_in w t budget = plan_of (wants_in w t) budget (order_in w t)

-- a part ends no later than `top`, and is in order and apart: of an item, `top` is where the areas end and the tables begin
pub record Proper (w : List ℕ) (at top x : ℕ) : Type 0 where
  pub inside : at + (first_of x + count_of x) ≤ top
  pub neat : Apart (ranges_at w at x)

pub record Lent (w : List ℕ) (t : Tables) : Type 0 where
  pub few : t.n ≤ 4096
  pub room : list_table t ≤ length w
  pub proper : (i : ℕ) → i < t.n → 0 < get_or w (t.items + i) 0 → Proper w t.at t.items (get_or w (t.items + i) 0)

-- the tables can be read: k places are linked
pub record Linked (w : List ℕ) (t : Tables) (top k : ℕ) : Type 0 where
  pub lent : Lent w t
  pub low : behind t ≤ top
  pub top_le : top ≤ length w
  pub k_le : k ≤ t.n
  pub falls : Falls (next_at w t) k
  pub lists : (q : ℕ) → q < k → 0 < list_at w t q → Listed w t top (list_at w t q)

-- the order's table names each item once
pub record InOrder (w : List ℕ) (t : Tables) : Type 0 where
  pub lent : Lent w t
  pub low : behind t ≤ t.end
  pub high : t.end ≤ length w
  pub small : t.end < 2 ^ 32
  pub names : Names t.n (order_in w t)

-- the item at place k can be put: so many cells are there, and each one's lists are linked
pub record Ready (w : List ℕ) (t : Tables) (k : ℕ) (s : Progress) : Type 0 where
  pub linked : Linked w t s.top k
  pub top_end : s.top ≤ t.end
  pub end_le : t.end ≤ length w
  pub small : t.end < 2 ^ 32
  pub known : (q : ℕ) → q < t.n → order_at w t q < t.n
  pub k_lt : k < t.n
  pub cells_le : s.cells ≤ k
  pub heads : (c : ℕ) → c < s.cells → head_at w t c ≤ k

-- the list of place k can be united with lists that it is linked to
pub record Topped (w : List ℕ) (t : Tables) (k top : ℕ) : Type 0 where
  pub linked : Linked w t top (k + 1)
  pub top_end : top ≤ t.end
  pub end_le : t.end ≤ length w
  pub small : t.end < 2 ^ 32

-- the plan of the wants, by the definition
abbrev pub plan_in : List ℕ → Tables → ℕ → Plan
plan_in w t budget = plan_of (wants_in w t) budget (order_of (wants_in w t))

-- the tables hold a plan's cells and each item's cell
pub record Shown (w : List ℕ) (t : Tables) (p : Plan) : Type 0 where
  pub size : (c : ℕ) → c < length p.cells → size_of (get_or w (cell_table t + c) 0) ≡ (cell_at p.cells c).size
  pub align : (c : ℕ) → c < length p.cells → align_of (get_or w (cell_table t + c) 0) ≡ (cell_at p.cells c).align
  pub cell : (i : ℕ) → i < t.n → get_or w (home_table t + i) 0 ≡ p.cell i

-- the tables hold the plan of the first k places; w₁ holds the wants and the order
pub record Holds (w₁ w : List ℕ) (t : Tables) (budget k : ℕ) (s : Progress) (p : Plan) : Type 0 where
  pub len : length w ≡ length w₁
  pub tables : (x : ℕ) → x < head_table t → get_or w x 0 ≡ get_or w₁ x 0
  pub low : behind t ≤ s.top
  pub high : s.top ≤ t.end
  pub end_le : t.end ≤ length w₁
  pub lists : (q : ℕ) → q < k → 0 < list_at w t q → Listed w t s.top (list_at w t q)
  pub k_le : k ≤ t.n
  pub falls : Falls (next_at w t) k
  pub cells_is : s.cells ≡ length p.cells
  pub cells_le : s.cells ≤ k
  pub left_is : s.left + p.probes ≡ budget
  pub shown : Shown w t p
  pub heads : (c : ℕ) → c < s.cells → head_at w t c ≤ k
  pub neat : (c : ℕ) (rs : List Range) → (cell_at p.cells c).area ≡ some rs → Apart rs
  pub same : (c : ℕ) → c < s.cells → (a : List Range) → Upright a → joinable (cell_at p.cells c).area a ≡ opens w t a c

-- one item more: where the tables held a plan, they hold the plan with the item put
pub record Stepped (w₀ w : List ℕ) (t : Tables) (k : ℕ) (s r : Progress) : Type 0 where
  pub keeps : (w₁ : List ℕ) (budget : ℕ) (p : Plan) → Lent w₁ t → ((q : ℕ) → q < t.n → order_at w₁ t q < t.n) → Holds w₁ w₀ t budget k s p
      → Holds w₁ w t budget (k + 1) r (put (wants_in w₁ t) budget (order_at w₁ t k) p)
  pub len : length w ≡ length w₀
  pub rest : (x : ℕ) → t.end ≤ x → get_or w x 0 ≡ get_or w₀ x 0

-- every item put, with rows of sample points from `end` on
pub record Each (w₁ w : List ℕ) (t : Tables) (width budget : ℕ) (r : Progress) : Type 0 where
  pub holds : Holds w₁ w t budget t.n r (placed_in w₁ t budget)
  pub rest : (x : ℕ) → t.end + t.n * width ≤ x → get_or w x 0 ≡ get_or w₁ x 0

-- every item put
pub record Placed (w₁ w : List ℕ) (t : Tables) (budget : ℕ) (r : Progress) : Type 0 where
  pub rows : ℕ
  pub holds : Holds w₁ w (up_to t rows) budget t.n r (placed_in w₁ t budget)
  pub rest : (x : ℕ) → t.end ≤ x → get_or w x 0 ≡ get_or w₁ x 0

-- the list of place k united with lists that it was linked to: nothing changes of what each cell takes
pub record Folded (w₀ w : List ℕ) (t : Tables) (k top top' : ℕ) : Type 0 where
  pub len : length w ≡ length w₀
  pub topped : Topped w t k top'
  pub keeps : (w₁ : List ℕ) (budget cells left : ℕ) (p : Plan) → Holds w₁ w₀ t budget (k + 1) (record { cells = cells; left = left; top = top }) p
      → Holds w₁ w t budget (k + 1) (record { cells = cells; left = left; top = top' }) p
  pub rest : (x : ℕ) → t.end ≤ x → get_or w x 0 ≡ get_or w₀ x 0

-- what fitting leaves: the plan in its tables and in the answer; the areas, the items' and the wants' tables, and everything from `end` on, as it was
pub record Fitted (w₀ w : List ℕ) (t : Tables) (budget : ℕ) (r : Counts) : Type 0 where
  pub len : length w ≡ length w₀
  pub cells : r.cells ≡ length (plan_in w₀ t budget).cells
  pub few : r.cells ≤ t.n
  pub probes : r.probes ≡ (plan_in w₀ t budget).probes
  pub shown : Shown w t (plan_in w₀ t budget)
  pub rest : (x : ℕ) → (x < order_table t) ⊎ (t.end ≤ x) → get_or w x 0 ≡ get_or w₀ x 0

-- a plan of `count` items in the tables behind the room for `room` ranges, and in the counts
pub record Made (p : Plan) (count room : ℕ) (w : List ℕ) (r : Counts) : Type 0 where
  pub cells : r.cells ≡ length p.cells
  pub probes : r.probes ≡ p.probes
  pub shown : Shown w (tables_at room count) p

-- an item's word, as fitting reads it
abbrev pub item_word : ℕ → ℕ → ℕ → ℕ
item_word present first count = cond (eqb present 0) 0 (first * 2 ^ 32 + count + 1)

-- a range's, an item's and a want's word, by their rows
abbrev pub area_word_at : List ℕ → ℕ → ℕ
area_word_at s i = range_start s i * 2 ^ 32 + range_end s i

abbrev pub item_word_at : List ℕ → ℕ → ℕ
item_word_at s i = item_word (want_present s i) (want_first s i) (want_ranges s i)

abbrev pub want_word_at : List ℕ → ℕ → ℕ
want_word_at s i = want_size s i * 2 ^ 32 + want_align s i

-- the tables as they are loaded: nothing behind them changes
pub record Loaded (w₀ w wants areas : List ℕ) (n ranges : ℕ) : Type 0 where
  pub len : length w ≡ length w₀
  pub area : (i : ℕ) → i < ranges → get_or w i 0 ≡ area_word_at areas i
  pub item : (i : ℕ) → i < n → get_or w (ranges + i) 0 ≡ item_word_at wants i
  pub want : (i : ℕ) → i < n → get_or w (ranges + n + i) 0 ≡ want_word_at wants i
  pub rest : (x : ℕ) → ranges + 2 * n ≤ x → get_or w x 0 ≡ get_or w₀ x 0

-- the answer lists' rows, by the tables
abbrev pub cell_rows_in : List ℕ → ℕ → ℕ → List ℕ
cell_rows_in w at n = flat (tabulate n (λ i. size_of (get_or w (at + i) 0) ∷ align_of (get_or w (at + i) 0) ∷ []))

abbrev pub item_rows_in : List ℕ → List ℕ → ℕ → ℕ → List ℕ
item_rows_in w wants at n = flat (tabulate n (λ i. item_row (get_or w (at + i) 0) (want_present wants i) (want_first wants i) (want_ranges wants i)))
