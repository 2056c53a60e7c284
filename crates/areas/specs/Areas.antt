-- Document 01, "Areas of items": the areas of plain and of ending locals by paths, as the points that they have.
use Rattle.std.specs.Prelude.{ℕ, ◌≤◌, ◌≡◌, ◌⊎◌, true}
use mathlib.Core.List.{List, Memᴰ}
use Rattle.ranges.specs.declared.Range.{Range}
use Rattle.graph.specs.Flow.{Reached, Reaching, Arrives}
use Rattle.areas.specs.Blocks.{Graph, top, InBlock, bounds, between, clip, touched, leaves, passes}

-- a touch of the list that starts or stops in the block, and has a point there at or before x; at or after x
pub record Started (G : Graph) (ts : List Range) (k x : ℕ) : Type 0 where
  pub touch : Range
  pub listed : Memᴰ touch ts
  pub bound : bounds G k touch ≡ true
  pub begun : touch.start ≤ x

pub record Stopping (G : Graph) (ts : List Range) (k x : ℕ) : Type 0 where
  pub touch : Range
  pub listed : Memᴰ touch ts
  pub bound : bounds G k touch ≡ true
  pub lasting : x ≤ touch.end

-- x, a point of the block at place k, is in the area of a plain local
pub data PlainAt (G : Graph) (ts : List Range) (k x : ℕ) : Type 0 where
  -- "the blocks between a touch's first and last make one more piece"
  inner : (t : Range) → Memᴰ t ts → between G k t ≡ true → PlainAt G ts k x
  -- "blocks with both bits are whole"
  both : Reached G.edges (touched G ts) k → Reaching G.edges (touched G ts) k → PlainAt G ts k x
  -- "in a block where a touch starts or stops, first to last point of those touches in it; from the top if `flowed` over predecessors
  -- has the bit, to the bottom if over successors"
  part : (t : Range) → Memᴰ t ts → bounds G k t ≡ true
      → Reached G.edges (touched G ts) k ⊎ Started G ts k x
      → Reaching G.edges (touched G ts) k ⊎ Stopping G ts k x → PlainAt G ts k x

-- x is not past the first end at or after z
abbrev pub UpTo : List ℕ → ℕ → ℕ → Type 0
UpTo es z x = (e : ℕ) → Memᴰ e es → z ≤ e → x ≤ e

-- x, a point of the block at place k, is in the area of an ending local
pub data EndAt (G : Graph) (ts : List Range) (es : List ℕ) (k x : ℕ) : Type 0 where
  -- "the blocks between are one whole piece, whatever ends in them"
  inner : (t : Range) → Memᴰ t ts → between G k t ≡ true → EndAt G ts es k x
  -- "each touch, clipped to its first and to its last block, runs there to the first end at or after its last point, else to the bottom"
  covered : (t : Range) → Memᴰ t ts → bounds G k t ≡ true → t.start ≤ x → UpTo es (clip G k t).end x → EndAt G ts es k x
  -- "a block arrived at is covered from the top to its first end"
  arrived : Arrives G.edges (leaves G ts es) (passes G es) k → UpTo es (top G k) x → EndAt G ts es k x

-- the points of the two kinds of area
abbrev pub PlainPoint : Graph → List Range → ℕ → Type 0
PlainPoint G ts x = (k : ℕ) × InBlock G k x × PlainAt G ts k x

abbrev pub EndPoint : Graph → List Range → List ℕ → ℕ → Type 0
EndPoint G ts es x = (k : ℕ) × InBlock G k x × EndAt G ts es k x
