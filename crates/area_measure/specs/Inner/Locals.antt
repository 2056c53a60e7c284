-- What the functions here promise each other. No public promise names these.
use Rattle.std.specs.Prelude.{ℕ, ◌+◌, ◌-◌, ◌*◌, ◌^◌, ◌≤◌, ◌<◌, ◌≡◌, ◌⊎◌, false, ◌&&◌, List, length, get_or}
use Rattle.std.proofs.Math.Option.{Option, some, none}
use Rattle.words.specs.Rows.{tabulate}
use Rattle.words.specs.Inner.{part, touch_count, stop_count}
use Rattle.words.specs.Widths.{block_count}
use Rattle.bits.specs.Bits.{bit}
use Rattle.ranges.specs.declared.Range.{Range}
use Rattle.ranges.specs.Inner.{unpacked}
use Rattle.graph.specs.Paths.{Edge}
use Rattle.graph.specs.Line.{blocks_of}
use Rattle.carrying.specs.Lists.{gather}
use Rattle.areas.specs.Job.{ranges_in, ranges_of}
use Rattle.spots.specs.Spots.{line_of}
use Rattle.area_pieces.specs.declared.Local.{Local}
use Rattle.areas.specs.Blocks.{AllInLine}
use Rattle.area_flow.specs.declared.Grid.{Grid}
use Rattle.area_flow.specs.Inner.{row_bit, block_bit}
use Rattle.local_spots.specs.declared.Places.{Places}
use Rattle.local_spots.specs.Locals.{touches_for, ends_for}
use Rattle.local_spots.specs.Inner.{Laid, Chains}
use Rattle.area_measure.specs.declared.Listing.{Listing}
use Rattle.area_measure.specs.Inner.Measure.{item_word, RowsFor}
use Rattle.ranges.specs.Points.{listed}
use Rattle.area_measure.specs.Locals.{area_for}

-- where local l's rows stand, and the words that its area is made in
abbrev pub local_at : Grid → ℕ → ℕ → ℕ → Local
local_at g n mark l = record {
  row = g.to + l * g.width;
  wide = g.width;
  written = g.written;
  read = g.read;
  words = g.words;
  local = l;
  mark = mark;
  span = mark + g.width;
  to = mark + g.width + n;
}

-- the most ranges that one local's area is made of
abbrev pub most_in : List ℕ → List ℕ → ℕ
most_in blocks touches = 3 * touch_count touches + block_count blocks

-- the areas of the first l items: their ranges one behind another where they fit, and for each a word, by the first of its ranges and its area
pub record ListedBy (word : ℕ → Option (List Range) → ℕ) (o : Listing) (A : ℕ → Option (List Range)) (l total : ℕ) (w : List ℕ) : Type 0 where
  pub total_is : total ≡ ranges_of (tabulate l A)
  pub areas : total ≤ o.room → unpacked (part o.areas total w) ≡ gather listed (tabulate l A)
  pub items : (i : ℕ) → i < l → get_or w (o.items + i) 0 ≡ word (ranges_of (tabulate i A)) (A i)

-- an item's word: 0 without an area, else the first of its ranges and one more than how many they are
abbrev pub word_of : ℕ → Option (List Range) → ℕ
word_of first none = 0
word_of first (some rs) = item_word first (length rs)

-- where it all stands, each part behind the one before
pub record Fits (blocks kinds touches ends : List ℕ) (p : Places) (g : Grid) (mark : ℕ) (o : Listing) (w : List ℕ) : Type 0 where
  pub locals_are : p.locals ≡ length kinds
  pub areas_fit : o.areas + o.room ≤ o.items
  pub items_fit : o.items + length kinds ≤ p.heads
  pub spots : Laid p (touch_count touches) (stop_count ends) w
  pub spots_fit : p.ends + stop_count ends ≤ g.written
  pub written_fits : g.written + block_count blocks * g.words ≤ g.read
  pub read_fits : g.read + block_count blocks * g.words ≤ g.to
  pub to_fits : g.to + length kinds * g.width ≤ mark
  pub fits : mark + g.width + block_count blocks + most_in blocks touches ≤ length w
  pub small : mark + g.width + block_count blocks < 2 ^ 64
  pub wide : block_count blocks ≤ g.width * 64
  pub narrow : g.width ≤ 64
  pub long : length kinds ≤ g.words * 64
  pub few : length kinds * most_in blocks touches < 2 ^ 32

-- the rows of every local stand, its touches are in the line, and no block is marked
pub record Ready (blocks kinds touches ends : List ℕ) (p : Places) (g : Grid) (mark : ℕ) (o : Listing) (w : List ℕ) : Type 0 where
  pub laid : Fits blocks kinds touches ends p g mark o w
  pub chains : Chains p touches ends w
  pub unmarked : (c : ℕ) → c < g.width * 64 → bit w mark c ≡ false
  pub rest : (l b : ℕ) → l < length kinds → block_count blocks ≤ b → b < g.width * 64 → block_bit g w l b ≡ false
  pub both : (l k : ℕ) → l < length kinds → get_or kinds l 0 ≡ 1 → k < block_count blocks → block_bit g w l k ≡ (row_bit g g.written w k l && row_bit g g.read w k l)
  pub in_line : (l : ℕ) → AllInLine (blocks_of blocks) (touches_for touches l)

-- local l's rows are those of its kind, its touches and its ends
abbrev pub RowsOf : List ℕ → List ℕ → List ℕ → List ℕ → Grid → ℕ → List ℕ → List Edge → ℕ → Type 0
RowsOf blocks kinds touches ends g mark w es l =
    RowsFor (line_of blocks es) (get_or kinds l 0) (local_at g (block_count blocks) mark l) (touches_for touches l) (ends_for ends l) w

-- nothing has changed that the next local reads, nor past what areas are made in
pub record Spared (blocks touches ends : List ℕ) (p : Places) (g : Grid) (mark : ℕ) (w₀ w : List ℕ) : Type 0 where
  pub len : length w ≡ length w₀
  pub chains : (i : ℕ) → p.heads ≤ i → i < p.at → get_or w i 0 ≡ get_or w₀ i 0
  pub rows : (i : ℕ) → p.ends + stop_count ends ≤ i → i < mark → get_or w i 0 ≡ get_or w₀ i 0
  pub past : (i : ℕ) → mark + g.width + block_count blocks + most_in blocks touches ≤ i → get_or w i 0 ≡ get_or w₀ i 0

-- the area of the next local, l
pub record Next (blocks kinds touches ends : List ℕ) (p : Places) (g : Grid) (mark : ℕ) (o : Listing) (l total : ℕ) (w₀ w : List ℕ) (r : ℕ) : Type 0 where
  pub spared : Spared blocks touches ends p g mark w₀ w
  pub unmarked : (c : ℕ) → c < g.width * 64 → bit w mark c ≡ false
  pub least : total ≤ r
  pub most : r ≤ total + most_in blocks touches
  pub word : (es : List Edge) → RowsOf blocks kinds touches ends g mark w₀ es l
      → get_or w (o.items + l) 0 ≡ word_of total (area_for (line_of blocks es) kinds touches ends l)
  pub same : (i : ℕ) → (i < o.areas + total) ⊎ (o.areas + o.room ≤ i) → (i ≡ o.items + l → ⊥) → i < p.heads → get_or w i 0 ≡ get_or w₀ i 0
  pub count : (es : List Edge) → RowsOf blocks kinds touches ends g mark w₀ es l
      → r ≡ total + ranges_in (area_for (line_of blocks es) kinds touches ends l)
  pub put : (es : List Edge) → RowsOf blocks kinds touches ends g mark w₀ es l → r ≤ o.room
      → listed (area_for (line_of blocks es) kinds touches ends l) ≡ unpacked (part (o.areas + total) (r - total) w)

-- the areas of the first l locals, once their rows are those of their kinds
pub record ListedFor (blocks kinds touches ends : List ℕ) (g : Grid) (mark : ℕ) (o : Listing) (l : ℕ) (w₀ w : List ℕ) (r : ℕ) : Type 0 where
  pub is : (es : List Edge) → ((i : ℕ) → i < length kinds → RowsOf blocks kinds touches ends g mark w₀ es i) → ListedBy word_of o (area_for (line_of blocks es) kinds touches ends) l r w

-- the areas of all locals
pub record MeasuredAll (blocks kinds touches ends : List ℕ) (p : Places) (g : Grid) (mark : ℕ) (o : Listing) (w₀ w : List ℕ) (r : ℕ) : Type 0 where
  pub spared : Spared blocks touches ends p g mark w₀ w
  pub most : r ≤ length kinds * most_in blocks touches
  pub listed : ListedFor blocks kinds touches ends g mark o (length kinds) w₀ w r
