-- What the functions promise that the marks and the turned rows are made by.
use Rattle.std.specs.Prelude.{ℕ, ◌+◌, ◌*◌, ◌<◌, ◌≤◌, ◌≡◌, ◌≢◌, ◌⊎◌, Bool, ◌&&◌, ◌||◌, List, [], length, leb}
use Rattle.bits.specs.Bits.{bit}
use Rattle.ranges.specs.declared.Range.{Range}
use Rattle.graph.specs.Inner.Work.{Within}
use Rattle.areas.specs.Blocks.{Graph, InBlock, bottom, block_of, bounds, between, cover}
use Rattle.spots.specs.Spots.{line_of}
use Rattle.area_rows.specs.declared.Column.{Column}
use Rattle.words.specs.Widths.{block_count}
use Rattle.graph.specs.Line.{blocks_of, Sound}
use Rattle.spots.specs.declared.Spots.{Spots}

-- the block is the touch's first or last, or lies between
abbrev pub spans : Graph → Range → ℕ → Bool
spans G t k = leb (block_of G t.start) k && leb k (block_of G t.end)

-- the local leaves the block by this touch
abbrev pub leaves_by : Graph → List ℕ → ℕ → Range → Bool
leaves_by G es k t = between G k t || bounds G k t && leb (bottom G k) (cover G es k t).end

-- r is the place of the block that has the point, where one has it
pub record Stopped (blocks : List ℕ) (point r : ℕ) : Type 0 where
  pub has : r < block_count blocks → InBlock (line_of blocks []) r point
  pub only : (k : ℕ) → InBlock (line_of blocks []) k point → k ≡ r

-- The marks of one local in the rows of the places: where they stand, and what becomes of them.

-- the local's bit of the row of place k
abbrev pub marked : Column → List ℕ → ℕ → Bool
marked c w k = bit w (c.base + k * c.words) c.bit

-- at the places of S the local's bit is v, at the others as it was, and nothing else has changed
pub record Put (c : Column) (v : Bool) (S : ℕ → Type 0) (w₀ w : List ℕ) : Type 0 where
  pub kept : Within c.base (c.base + c.n * c.words) w₀ w
  pub put : (k : ℕ) → k < c.n → S k → marked c w k ≡ v
  pub rest : (k : ℕ) → k < c.n → S k ⊎ (marked c w k ≡ marked c w₀ k)
  pub others : (k b : ℕ) → k < c.n → b < c.words * 64 → b ≢ c.bit → bit w (c.base + k * c.words) b ≡ bit w₀ (c.base + k * c.words) b

-- the rows have room, and a bit for the local
pub record Fits (c : Column) (w : List ℕ) : Type 0 where
  pub bit_in : c.bit < c.words * 64
  pub rows_in : c.base + c.n * c.words ≤ length w

-- the local's bit of each place's row is g's, and nothing else has changed
pub record Marked (c : Column) (g : ℕ → Bool) (w₀ w : List ℕ) : Type 0 where
  pub kept : Within c.base (c.base + c.n * c.words) w₀ w
  pub column : (k : ℕ) → k < c.n → marked c w k ≡ g k
  pub others : (k b : ℕ) → k < c.n → b < c.words * 64 → b ≢ c.bit → bit w (c.base + k * c.words) b ≡ bit w₀ (c.base + k * c.words) b

-- the touches, or the ends, stand in the work space apart from the rows of the line's places
pub record TouchesReady (blocks : List ℕ) (s : Spots) (c : Column) (w : List ℕ) : Type 0 where
  pub line : Sound (blocks_of blocks)
  pub places : c.n ≡ block_count blocks
  pub fits : Fits c w
  pub stand : s.at + s.count ≤ length w
  pub apart : (s.at + s.count ≤ c.base) ⊎ (c.base + c.n * c.words ≤ s.at)

pub record EndsReady (blocks : List ℕ) (s : Spots) (c : Column) (w : List ℕ) : Type 0 where
  pub line : Sound (blocks_of blocks)
  pub places : c.n ≡ block_count blocks
  pub fits : Fits c w
  pub stand : s.ends + s.stops ≤ length w
  pub apart : (s.ends + s.stops ≤ c.base) ⊎ (c.base + c.n * c.words ≤ s.ends)
