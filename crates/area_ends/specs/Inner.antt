-- What private functions promise each other. No public promise names these.
use Rattle.std.specs.Prelude.{ℕ, zero, suc, ◌+◌, ◌*◌, ◌^◌, ◌≤◌, ◌<◌, ◌≡◌, Bool, cond, List, [], ◌∷◌, ◌++◌, length, eqb}
use Rattle.words.specs.Inner.{part}
use Rattle.ranges.specs.declared.Range.{Range}
use Rattle.ranges.specs.Points.{range}
use Rattle.ranges.specs.Inner.{unpack, unpacked}
use Rattle.carrying.specs.Lists.{gather}
use Rattle.areas.specs.Blocks.{Graph, top, bottom, block_of, until, cover}
use Rattle.areas.specs.Pieces.{through, arrives_row, ending_area}
use Rattle.spots.specs.declared.Spots.{Spots}
use Rattle.spots.specs.Inner.{Stand, touches_at, ends_at}
use Rattle.area_pieces.specs.declared.Local.{Local}
use Rattle.area_pieces.specs.Inner.{Bounded, Sweepable, Swept, Listed, own_bit, Unmarked}
use Rattle.words.specs.Widths.{block_count}
use Rattle.graph.specs.Paths.{Edge}
use Rattle.graph.specs.Inner.Work.{Within}
use Rattle.spots.specs.Spots.{line_of}

-- the pieces of a touch: its covers in its first and its last block, once where these are one, and its between-piece
abbrev pub covering : Graph → List ℕ → Range → List Range
covering G es t =
    cond (eqb (block_of G t.start) (block_of G t.end)) (cover G es (block_of G t.start) t ∷ [])
    (cover G es (block_of G t.start) t ∷ cover G es (block_of G t.end) t ∷ [])

abbrev pub touch_pieces : Graph → List ℕ → Range → List Range
touch_pieces G es t = covering G es t ++ through G t

-- a block arrived at: "covered from the top to its first end"
abbrev pub arrival : Graph → List ℕ → ℕ → Range
arrival G es k = range (top G k) (until es (top G k) (bottom G k))

-- those of the first n blocks that a row has
unfoldable pub arrivals : Graph → List ℕ → (ℕ → Bool) → ℕ → List Range
arrivals G es a zero = []
arrivals G es a (suc k) = arrivals G es a k ++ cond (a k) (arrival G es k ∷ []) []

-- the pieces of one touch are put behind the m pieces
pub record Covered (G : Graph) (es : List ℕ) (s : Local) (x m r : ℕ) (w₀ w : List ℕ) : Type 0 where
  pub listed : Listed w₀ w s.to r (unpacked (part s.to m w₀) ++ touch_pieces G es (unpack x))
  pub least : m ≤ r
  pub most : r ≤ m + 3

-- the pieces of all touches stand from `to` on
pub record Covers (G : Graph) (es : List ℕ) (s : Local) (ts : List Range) (r : ℕ) (w₀ w : List ℕ) : Type 0 where
  pub listed : Listed w₀ w s.to r (gather (touch_pieces G es) ts)
  pub count : r ≤ 3 * length ts

-- what `arrive` asks: the touches and the ends stand before the marks
pub record Arriving (t : Spots) (s : Local) (n from : ℕ) (w : List ℕ) : Type 0 where
  pub swept : Sweepable s n from w
  pub stand : Stand t w
  pub touches_fit : t.at + t.count ≤ s.mark
  pub ends_fit : t.ends + t.stops ≤ s.mark

-- what `arrived` asks: what it reads stands before the marks, and these before the pieces
pub record Arrivable (t : Spots) (s : Local) (n from : ℕ) (w : List ℕ) : Type 0 where
  pub wide : n ≤ s.wide * 64
  pub small : s.wide * 64 < 2 ^ 64
  pub row_fits : s.row + s.wide ≤ s.mark
  pub mark_fits : s.mark + s.wide ≤ from
  pub fits : from + n ≤ length w
  pub stand : Stand t w
  pub touches_fit : t.at + t.count ≤ s.mark
  pub ends_fit : t.ends + t.stops ≤ s.mark
  pub bounded : Bounded s n w

-- the blocks of a row over the blocks, each from its top to its first end, from `from` on
pub record Arrived (G : Graph) (es : List ℕ) (row : ℕ → Bool) (s : Local) (n from r : ℕ) (w₀ w : List ℕ) : Type 0 where
  pub swept : Swept s n from r w₀ w
  pub pieces : unpacked (part from r w) ≡ arrivals G es row n

-- An ending local in the work space: its own row, and its area there.

-- the local's own row is that of the blocks it arrives at
pub record EndRow (G : Graph) (s : Local) (ts : List Range) (es : List ℕ) (w : List ℕ) : Type 0 where
  pub arriving : (k : ℕ) → k < length G.blocks → own_bit s w k ≡ arrives_row G ts es k

-- the area of an ending local stands from `to` on
pub record EndingIn (blocks : List ℕ) (t : Spots) (s : Local) (w₀ w : List ℕ) (r : ℕ) : Type 0 where
  pub kept : Within s.mark (s.to + (3 * t.count + block_count blocks)) w₀ w
  pub unmarked : Unmarked s w
  pub count : r ≤ 3 * t.count + block_count blocks
  pub is : (es : List Edge) → EndRow (line_of blocks es) s (touches_at t w₀) (ends_at t w₀) w₀
      → unpacked (part s.to r w) ≡ ending_area (line_of blocks es) (touches_at t w₀) (ends_at t w₀)
