-- What the functions here promise each other. No public promise names these.
use Rattle.std.specs.Prelude.{ℕ, ◌+◌, ◌-◌, ◌*◌, ◌^◌, ◌≤◌, ◌<◌, ◌≡◌, ◌⊎◌, List, length, get_or}
use Rattle.std.proofs.Math.Option.{some}
use Rattle.words.specs.Inner.{part}
use Rattle.words.specs.Widths.{block_count}
use Rattle.ranges.specs.declared.Range.{Range}
use Rattle.ranges.specs.Inner.{unpacked}
use Rattle.graph.specs.Paths.{Edge}
use Rattle.graph.specs.Line.{blocks_of}
use Rattle.graph.specs.Inner.Work.{Within}
use Rattle.areas.specs.Blocks.{Graph, AllInLine}
use Rattle.areas.specs.Job.{area_by, ranges_in}
use Rattle.spots.specs.declared.Spots.{Spots}
use Rattle.spots.specs.Spots.{line_of}
use Rattle.spots.specs.Inner.{touches_at, ends_at, Stand}
use Rattle.area_pieces.specs.declared.Local.{Local}
use Rattle.area_pieces.specs.Inner.{Laid, Flowing, Unmarked, Bounded, Both, PlainRows}
use Rattle.area_ends.specs.Inner.{EndRow}
use Rattle.kind_numbers.specs.Numbers.{kind_by}
use Rattle.area_measure.specs.declared.Listing.{Listing}

-- The area of one local by its kind, put behind those so far.

-- the most ranges that a local's area is made of
abbrev pub most_of : List ℕ → Spots → ℕ
most_of blocks t = 3 * t.count + block_count blocks

-- the rows of a local are those of its kind
pub record RowsFor (G : Graph) (kind : ℕ) (s : Local) (ts : List Range) (es : List ℕ) (w : List ℕ) : Type 0 where
  pub plain : kind ≡ 1 → PlainRows G s ts w
  pub ending : 1 < kind → EndRow G s ts es w

-- a plain or ending local, by its kind's number, whose touches, ends and rows stand in the work space, the touches in the line
pub record Measurable (blocks : List ℕ) (kind : ℕ) (t : Spots) (s : Local) (w : List ℕ) : Type 0 where
  pub followed : 0 < kind
  pub laid : Laid t s (block_count blocks) (most_of blocks t) w
  pub flowing : Flowing s (block_count blocks)
  pub stand : Stand t w
  pub unmarked : Unmarked s w
  pub bounded : Bounded s (block_count blocks) w
  pub both : kind ≡ 1 → Both s (block_count blocks) w
  pub in_line : AllInLine (blocks_of blocks) (touches_at t w)

-- its area stands from `to` on
pub record AreaIn (blocks : List ℕ) (kind : ℕ) (t : Spots) (s : Local) (w₀ w : List ℕ) (r : ℕ) : Type 0 where
  pub kept : Within s.mark (s.to + most_of blocks t) w₀ w
  pub unmarked : Unmarked s w
  pub count : r ≤ most_of blocks t
  pub is : (es : List Edge) → RowsFor (line_of blocks es) kind s (touches_at t w₀) (ends_at t w₀) w₀
      → area_by (line_of blocks es) (kind_by kind) (touches_at t w₀) (ends_at t w₀) ≡ some (unpacked (part s.to r w))

-- the areas and the items stand before what areas are made in, and each number fits half a word
pub record Listable (blocks : List ℕ) (t : Spots) (s : Local) (o : Listing) (total : ℕ) : Type 0 where
  pub areas_fit : o.areas + o.room ≤ o.items
  pub items_fit : o.items + s.local < s.mark
  pub small : total + most_of blocks t < 2 ^ 32

-- an item's word: its first range, and one more than how many it has
abbrev pub item_word : ℕ → ℕ → ℕ
item_word first count = first * 2 ^ 32 + count + 1

-- a local's area stands behind the `total` ranges so far, where it fits, and its word in the table; nothing else has changed but what areas are made in
pub record Measured (blocks : List ℕ) (kind : ℕ) (t : Spots) (s : Local) (o : Listing) (total : ℕ) (w₀ w : List ℕ) (r : ℕ) : Type 0 where
  pub len : length w ≡ length w₀
  pub least : total ≤ r
  pub most : r ≤ total + most_of blocks t
  pub word : get_or w (o.items + s.local) 0 ≡ item_word total (r - total)
  pub unmarked : Unmarked s w
  pub same : (i : ℕ) → (i < o.areas + total) ⊎ (o.areas + o.room ≤ i) → (i ≡ o.items + s.local → ⊥) → (i < s.mark) ⊎ (s.to + most_of blocks t ≤ i) → get_or w i 0 ≡ get_or w₀ i 0
  pub count : (es : List Edge) → RowsFor (line_of blocks es) kind s (touches_at t w₀) (ends_at t w₀) w₀
      → r ≡ total + ranges_in (area_by (line_of blocks es) (kind_by kind) (touches_at t w₀) (ends_at t w₀))
  pub put : (es : List Edge) → RowsFor (line_of blocks es) kind s (touches_at t w₀) (ends_at t w₀) w₀ → r ≤ o.room
      → area_by (line_of blocks es) (kind_by kind) (touches_at t w₀) (ends_at t w₀) ≡ some (unpacked (part (o.areas + total) (r - total) w))
