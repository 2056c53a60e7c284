-- What the functions here promise each other. No public promise names these.
use Rattle.std.specs.Prelude.{ℕ, ◌+◌, ◌≤◌, ◌<◌, ◌≡◌, List, length, get_or}
use Rattle.words.specs.Inner.{Rising, part}
use Rattle.words.specs.Widths.{block_count}
use Rattle.ranges.specs.declared.Range.{Range}
use Rattle.ranges.specs.Inner.{unpacked}
use Rattle.graph.specs.Paths.{Edge}
use Rattle.areas.specs.Blocks.{block_of}
use Rattle.spots.specs.declared.Spots.{Spots}
use Rattle.spots.specs.Spots.{line_of}

-- the touches and the ends of a local
abbrev pub touches_at : Spots → List ℕ → List Range
touches_at s w = unpacked (part s.at s.count w)

abbrev pub ends_at : Spots → List ℕ → List ℕ
ends_at s w = part s.ends s.stops w

-- they stand in the work space, the ends rising
pub record Stand (s : Spots) (w : List ℕ) : Type 0 where
  pub touches_fit : s.at + s.count ≤ length w
  pub ends_fit : s.ends + s.stops ≤ length w
  pub rising : Rising (λ i. get_or w (s.ends + i) 0) s.stops

-- r is the place of the block that holds the point
pub record Held (blocks : List ℕ) (point r : ℕ) : Type 0 where
  pub below : r < block_count blocks
  pub is : (es : List Edge) → r ≡ block_of (line_of blocks es) point
