-- Document 01, "Areas of items": where a touch lies in the line, and the tests of a block that the rows of one local start from.
use Rattle.std.specs.Prelude.{ℕ, zero, suc, ◌-◌, ◌≤◌, ◌<◌, min, max, Bool, cond, not, ◌&&◌, ◌||◌, length, eqb, leb, ltb}
use mathlib.Core.List.{List, [], ◌∷◌, Memᴰ}
use Rattle.ranges.specs.declared.Range.{Range}
use Rattle.ranges.specs.Points.{range, overlaps}
use Rattle.graph.specs.Paths.{Edge}
use Rattle.graph.specs.Line.{Stretch, block_at}
use Rattle.carrying.specs.Lists.{any}

-- the blocks in line order and the edges by place
pub record Graph : Type 0 where
  pub blocks : List Stretch
  pub edges : List Edge

abbrev pub top : Graph → ℕ → ℕ
top G k = (block_at G.blocks k).start

abbrev pub bottom : Graph → ℕ → ℕ
bottom G k = (block_at G.blocks k).end

-- the whole block
abbrev pub whole : Graph → ℕ → Range
whole G k = range (top G k) (bottom G k)

-- x is a point of the block at place k
pub record InBlock (G : Graph) (k x : ℕ) : Type 0 where
  pub block : k < length G.blocks
  pub above : top G k ≤ x
  pub under : x ≤ bottom G k

-- the block of a point: the last that starts no later; of a point before all blocks it is the first, after all the last
unfoldable pub holding : Graph → ℕ → ℕ → ℕ
holding G zero x = 0
holding G (suc n) x = cond (leb (top G n) x) n (holding G n x)

abbrev pub block_of : Graph → ℕ → ℕ
block_of G x = holding G (length G.blocks) x

-- the touch starts or stops in the block
abbrev pub bounds : Graph → ℕ → Range → Bool
bounds G k t = eqb (block_of G t.start) k || eqb (block_of G t.end) k

-- the block lies "between a touch's first and last"
abbrev pub between : Graph → ℕ → Range → Bool
between G k t = ltb (block_of G t.start) k && ltb k (block_of G t.end)

-- "clipped to its first and to its last block"
abbrev pub clip : Graph → ℕ → Range → Range
clip G k t = range (max t.start (top G k)) (min t.end (bottom G k))

-- a touch is upright and in the line: what numbers 4 and 6 leave of it
pub record InLine (bs : List Stretch) (t : Range) : Type 0 where
  pub upright : t.start ≤ t.end
  pub first : (block_at bs 0).start ≤ t.start
  pub last : t.end ≤ (block_at bs (length bs - 1)).end

abbrev pub AllInLine : List Stretch → List Range → Type 0
AllInLine bs ts = (t : Range) → Memᴰ t ts → InLine bs t

-- "a block is touched if any point of a touch lies in it"
abbrev pub touched : Graph → List Range → ℕ → Bool
touched G ts k = any (λ t. overlaps t (whole G k)) ts

-- "the first end at or after" z, "else" the bottom b
unfoldable pub until : List ℕ → ℕ → ℕ → ℕ
until [] z b = b
until (e ∷ es) z b = cond (leb z e) (min e (until es z b)) (until es z b)

-- a touch's cover in its first or last block: "to the first end at or after its last point, else to the bottom"
abbrev pub cover : Graph → List ℕ → ℕ → Range → Range
cover G es k t = range (clip G k t).start (until es (clip G k t).end (bottom G k))

-- a local leaves "a block that lies between a touch's first and last, or one where some touch's cover reaches the block's last point"
abbrev pub leaves : Graph → List Range → List ℕ → ℕ → Bool
leaves G ts es k = any (λ t. between G k t || bounds G k t && leb (bottom G k) (cover G es k t).end) ts

-- "a local passes a block that has none of its ends"
abbrev pub passes : Graph → List ℕ → ℕ → Bool
passes G es k = not (any (λ e. leb (top G k) e && leb e (bottom G k)) es)
