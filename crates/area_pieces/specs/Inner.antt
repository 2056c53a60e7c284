-- What private functions promise each other, here and in `area_ends`. No public promise names these.
use Rattle.std.specs.Prelude.{ℕ, ◌+◌, ◌-◌, ◌*◌, ◌/◌, ◌^◌, ◌≤◌, ◌<◌, min, max, ◌≡◌, ◌≢◌, ◌⊎◌, Bool, true, false, cond, ◌&&◌, List, [], ◌∷◌, ◌++◌, length, get_or}
use Rattle.words.specs.Inner.{part}
use Rattle.ranges.specs.declared.Range.{Range}
use Rattle.ranges.specs.Points.{range}
use Rattle.ranges.specs.Inner.{unpack, unpacked}
use Rattle.graph.specs.Paths.{Edge}
use Rattle.graph.specs.Inner.Work.{Within}
use Rattle.areas.specs.Blocks.{Graph, top, bottom, whole}
use Rattle.areas.specs.Pieces.{clips, through, throughs, least, most, block_piece, line_pieces, before_row, after_row, plain_area}
use Rattle.spots.specs.Spots.{line_of}
pub use Rattle.joining.specs.Inner.{Listed, JoinedIn}
use Rattle.area_pieces.specs.declared.Local.{Local}
use Rattle.words.specs.Widths.{block_count}
use Rattle.bits.specs.Bits.{bit}
use Rattle.spots.specs.declared.Spots.{Spots}
use Rattle.spots.specs.Inner.{touches_at}

-- first to last point of some ranges
abbrev pub hull : List Range → List Range
hull [] = []
hull (r ∷ rs) = range (least r rs) (most r rs) ∷ []

-- a hull with some ranges more
abbrev pub hulled : List Range → List Range → List Range
hulled h [] = h
hulled [] (c ∷ cs) = hull (c ∷ cs)
hulled (h ∷ hs) (c ∷ cs) = range (min h.start (least c cs)) (max h.end (most c cs)) ∷ []

-- block k has a word for its span, and a bit that says whether it has one
pub record Spannable (s : Local) (k : ℕ) (w : List ℕ) : Type 0 where
  pub marked_in : k < s.wide * 64
  pub span_in : s.span + k < s.to
  pub mark_fits : s.mark + s.wide ≤ s.span
  pub fits : s.to ≤ length w

-- One local in the work space: its rows, the words that its pieces are made in, and its area there.

-- the local's bit in its own row over the blocks, and in the written and the read row of block k
abbrev pub own_bit : Local → List ℕ → ℕ → Bool
own_bit s w k = bit w s.row k

-- the blocks from k up to e, of one word of the local's own row: one, or some that all have its bit
pub record Run (s : Local) (k e : ℕ) (w : List ℕ) : Type 0 where
  pub some : k < e
  pub word : e ≤ k / 64 * 64 + 64
  pub own : e ≢ k + 1 → (c : ℕ) → k ≤ c → c < e → own_bit s w c ≡ true

abbrev pub written_bit : Local → List ℕ → ℕ → Bool
written_bit s w k = bit w (s.written + k * s.words) s.local

abbrev pub read_bit : Local → List ℕ → ℕ → Bool
read_bit s w k = bit w (s.read + k * s.words) s.local

-- the piece of a block that has both bits or a span
abbrev pub piece_at : Graph → Local → List ℕ → ℕ → Range
piece_at G s w k =
    cond (own_bit s w k) (whole G k)
    (range (cond (written_bit s w k) (top G k) (unpack (get_or w (s.span + k) 0)).start)
    (cond (read_bit s w k) (bottom G k) (unpack (get_or w (s.span + k) 0)).end))

-- x is the piece of the blocks from k up to e
pub record RunPiece (G : Graph) (s : Local) (w : List ℕ) (k e : ℕ) (x : Range) : Type 0 where
  pub one : e ≡ k + 1 → x ≡ piece_at G s w k
  pub more : e ≢ k + 1 → x ≡ range (top G k) (bottom G (e - 1))

abbrev pub mark_bit : Local → List ℕ → ℕ → Bool
mark_bit s w k = bit w s.mark k

-- the span of block k, where it is marked
abbrev pub span_at : Local → List ℕ → ℕ → List Range
span_at s w k = cond (mark_bit s w k) (unpack (get_or w (s.span + k) 0) ∷ []) []

-- the marked blocks are to be visited, with a piece each from `from` on: no mark is past the n blocks
pub record Sweepable (s : Local) (n from : ℕ) (w : List ℕ) : Type 0 where
  pub wide : n ≤ s.wide * 64
  pub small : s.wide * 64 < 2 ^ 64
  pub mark_fits : s.mark + s.wide ≤ from
  pub fits : from + n ≤ length w
  pub past : (c : ℕ) → n ≤ c → c < s.wide * 64 → mark_bit s w c ≡ false

-- the range c is put to the span of block k; nothing else has changed
pub record Widened (s : Local) (k : ℕ) (c : Range) (w₀ w : List ℕ) : Type 0 where
  pub len : length w ≡ length w₀
  pub here : span_at s w k ≡ hulled (span_at s w₀ k) (c ∷ [])
  pub there : (j : ℕ) → j ≢ k → j < s.wide * 64 → span_at s w j ≡ span_at s w₀ j
  pub marks : (j : ℕ) → j ≢ k → j < s.wide * 64 → mark_bit s w j ≡ mark_bit s w₀ j
  pub before : (i : ℕ) → i < s.mark → get_or w i 0 ≡ get_or w₀ i 0
  pub after : (i : ℕ) → s.to ≤ i → get_or w i 0 ≡ get_or w₀ i 0

-- one touch is put to the spans of its first and last block, and its between-piece to the m pieces
pub record Put (G : Graph) (s : Local) (n : ℕ) (x m r : ℕ) (w₀ w : List ℕ) : Type 0 where
  pub len : length w ≡ length w₀
  pub spans : (k : ℕ) → k < n → span_at s w k ≡ hulled (span_at s w₀ k) (clips G (unpack x ∷ []) k)
  pub past : (c : ℕ) → n ≤ c → c < s.wide * 64 → mark_bit s w c ≡ mark_bit s w₀ c
  pub pieces : unpacked (part s.to r w) ≡ unpacked (part s.to m w₀) ++ through G (unpack x)
  pub least : m ≤ r
  pub most : r ≤ m + 1
  pub before : (i : ℕ) → i < s.mark → get_or w i 0 ≡ get_or w₀ i 0
  pub after : (i : ℕ) → s.to + r ≤ i → get_or w i 0 ≡ get_or w₀ i 0

-- the spans of n blocks are those of the touches
pub record Spans (G : Graph) (s : Local) (n : ℕ) (ts : List Range) (w : List ℕ) : Type 0 where
  pub is : (k : ℕ) → k < n → span_at s w k ≡ hull (clips G ts k)

-- the spans of the touches, and their between-pieces from `to` on
pub record Spanned (G : Graph) (s : Local) (n : ℕ) (ts : List Range) (r : ℕ) (w₀ w : List ℕ) : Type 0 where
  pub kept : Within s.mark (s.to + r) w₀ w
  pub spans : Spans G s n ts w
  pub past : (c : ℕ) → n ≤ c → c < s.wide * 64 → mark_bit s w c ≡ false
  pub pieces : unpacked (part s.to r w) ≡ throughs G ts
  pub count : r ≤ length ts

-- the marks of the blocks from k up to e are taken away: those behind are as they were, and none before is set; nothing else has changed
pub record Taken (s : Local) (k e : ℕ) (w₀ w : List ℕ) : Type 0 where
  pub len : length w ≡ length w₀
  pub some : k ≤ e
  pub within : e ≤ s.wide * 64
  pub gone : (c : ℕ) → k ≤ c → c < e → mark_bit s w c ≡ false
  pub fewer : (c : ℕ) → c < k → mark_bit s w₀ c ≡ false → mark_bit s w c ≡ false
  pub others : (c : ℕ) → e ≤ c → mark_bit s w c ≡ mark_bit s w₀ c
  pub rest : (i : ℕ) → (i < s.mark) ⊎ (s.mark + s.wide ≤ i) → get_or w i 0 ≡ get_or w₀ i 0

-- each block of the local's own row is marked
pub record Covered (s : Local) (w : List ℕ) : Type 0 where
  pub marked : (c : ℕ) → c < s.wide * 64 → own_bit s w c ≡ true → mark_bit s w c ≡ true

-- each marked block has its piece, and no other block has one
pub record Pieced (G : Graph) (ts : List Range) (f g : ℕ → Bool) (s : Local) (n : ℕ) (w : List ℕ) : Type 0 where
  pub is : (k : ℕ) → k < n → block_piece G ts f g k ≡ cond (mark_bit s w k) (piece_at G s w k ∷ []) []

-- the free words for n blocks, with room for `room` pieces
pub record Free (s : Local) (n room : ℕ) (w : List ℕ) : Type 0 where
  pub wide : n ≤ s.wide * 64
  pub small : s.wide * 64 < 2 ^ 64
  pub mark_fits : s.mark + s.wide ≤ s.span
  pub span_fits : s.span + n ≤ s.to
  pub fits : s.to + room ≤ length w

-- where all of it stands: what is read stands before what is written
pub record Laid (t : Spots) (s : Local) (n room : ℕ) (w : List ℕ) : Type 0 where
  pub free : Free s n room w
  pub touches_fit : t.at + t.count ≤ s.mark
  pub ends_fit : t.ends + t.stops ≤ s.mark
  pub row_fits : s.row + s.wide ≤ s.mark

-- the same of the rows of a plain local
pub record Flowing (s : Local) (n : ℕ) : Type 0 where
  pub written_fits : s.written + n * s.words ≤ s.mark
  pub read_fits : s.read + n * s.words ≤ s.mark
  pub bit_in : s.local < s.words * 64

-- what `visit` asks: what it reads stands before the pieces
pub record Visitable (s : Local) (n from : ℕ) (w : List ℕ) : Type 0 where
  pub swept : Sweepable s n from w
  pub row_fits : s.row + s.wide ≤ s.mark
  pub mark_fits : s.mark + s.wide ≤ s.span
  pub span_fits : s.span + n ≤ from
  pub flowing : Flowing s n

-- no block is marked
pub record Unmarked (s : Local) (w : List ℕ) : Type 0 where
  pub none : (c : ℕ) → c < s.wide * 64 → mark_bit s w c ≡ false

-- they have been visited, with r pieces: no block is marked any more, and nothing else has changed
pub record Swept (s : Local) (n from r : ℕ) (w₀ w : List ℕ) : Type 0 where
  pub len : length w ≡ length w₀
  pub count : r ≤ n
  pub unmarked : Unmarked s w
  pub before : (i : ℕ) → i < s.mark → get_or w i 0 ≡ get_or w₀ i 0
  pub between : (i : ℕ) → s.mark + s.wide ≤ i → i < from → get_or w i 0 ≡ get_or w₀ i 0
  pub after : (i : ℕ) → from + n ≤ i → get_or w i 0 ≡ get_or w₀ i 0

-- the pieces of the marked blocks in line order, from `from` on
pub record Visited (blocks : List ℕ) (s : Local) (n : ℕ) (from r : ℕ) (w₀ w : List ℕ) : Type 0 where
  pub swept : Swept s n from r w₀ w
  pub pieces : (es : List Edge) (ts : List Range) (f g : ℕ → Bool) → Pieced (line_of blocks es) ts f g s n w₀ → unpacked (part from r w) ≡ line_pieces (line_of blocks es) ts f g n

-- the pieces of the blocks in line order, from `from` on, of any touches whose spans stand there
pub record Lined (blocks : List ℕ) (s : Local) (n : ℕ) (from r : ℕ) (w₀ w : List ℕ) : Type 0 where
  pub swept : Swept s n from r w₀ w
  pub pieces : (es : List Edge) (ts : List Range) → Spans (line_of blocks es) s n ts w₀ → unpacked (part from r w) ≡ line_pieces (line_of blocks es) ts (written_bit s w₀) (read_bit s w₀) n

-- no bit of the local's own row is past the n blocks
pub record Bounded (s : Local) (n : ℕ) (w : List ℕ) : Type 0 where
  pub past : (c : ℕ) → n ≤ c → c < s.wide * 64 → own_bit s w c ≡ false

-- a plain local's own row: "blocks with both bits"
pub record Both (s : Local) (n : ℕ) (w : List ℕ) : Type 0 where
  pub bits : (k : ℕ) → k < n → own_bit s w k ≡ (written_bit s w k && read_bit s w k)
  pub bounded : Bounded s n w

-- an area is put behind those so far, where all of it fits the room; the total goes on counting
pub record Appended (w₀ w : List ℕ) (base room total from count r : ℕ) : Type 0 where
  pub len : length w ≡ length w₀
  pub total_is : r ≡ total + count
  pub put : r ≤ room → part (base + total) count w ≡ part from count w₀
  pub full : room < r → w ≡ w₀
  pub before : (i : ℕ) → i < base + total → get_or w i 0 ≡ get_or w₀ i 0
  pub after : (i : ℕ) → base + total + count ≤ i → get_or w i 0 ≡ get_or w₀ i 0

-- the rows of n places are those of a plain local
pub record PlainRows (G : Graph) (s : Local) (ts : List Range) (w : List ℕ) : Type 0 where
  pub written : (k : ℕ) → k < length G.blocks → written_bit s w k ≡ before_row G ts k
  pub read : (k : ℕ) → k < length G.blocks → read_bit s w k ≡ after_row G ts k

-- the area of a plain local stands from `to` on
pub record PlainIn (blocks : List ℕ) (t : Spots) (s : Local) (w₀ w : List ℕ) (r : ℕ) : Type 0 where
  pub kept : Within s.mark (s.to + (t.count + block_count blocks)) w₀ w
  pub unmarked : Unmarked s w
  pub count : r ≤ t.count + block_count blocks
  pub is : (es : List Edge) → PlainRows (line_of blocks es) s (touches_at t w₀) w₀ → unpacked (part s.to r w) ≡ plain_area (line_of blocks es) (touches_at t w₀)
