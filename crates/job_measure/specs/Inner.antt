-- What the functions here promise each other. No public promise names these.
use Rattle.std.specs.Prelude.{ℕ, ◌+◌, ◌*◌, ◌^◌, ◌≤◌, ◌<◌, ◌≡◌, false, List, length, get_or}
use Rattle.std.proofs.Math.Option.{Option}
use Rattle.words.specs.Widths.{block_count, address_count, end_count, piece_count}
use Rattle.bits.specs.Bits.{bit}
use Rattle.ranges.specs.declared.Range.{Range}
use Rattle.graph.specs.Paths.{Edge}
use Rattle.graph.specs.Line.{blocks_of, Sound}
use Rattle.carrying.specs.Carried.{Code, Piece, pieces_of, kind_of, touches_of, ends_of}
use Rattle.areas.specs.Blocks.{Graph, AllInLine}
use Rattle.areas.specs.Job.{area_by}
use Rattle.reach.specs.declared.Lay.{Lay}
use Rattle.reach.specs.Prepared.{code_of}
use Rattle.reach.specs.Inner.{Prepared}
use Rattle.follow.specs.declared.Sizes.{Sizes}
use Rattle.spots.specs.Spots.{line_of}
use Rattle.area_flow.specs.declared.Grid.{Grid}
use Rattle.area_measure.specs.declared.Listing.{Listing}
use Rattle.area_measure.specs.Inner.Locals.{word_of, ListedBy}
use Rattle.local_marks.specs.Inner.{RowsBy}
use Rattle.job_spots.specs.declared.Places.{Places}
use Rattle.job_spots.specs.Inner as fetching

-- The areas of all locals of a job, one behind another in item order, and their items.

-- the most ranges that one local's area is made of
abbrev pub most_in : List ℕ → List ℕ → List ℕ → ℕ
most_in blocks addresses pieces = 3 * (piece_count pieces + address_count addresses) + block_count blocks

-- where it all stands, each part behind the one before: areas and items before the live pieces, the rows behind one local's touches and ends
pub record Fits (blocks addresses ends pieces : List ℕ) (p : Places) (z : Sizes) (g : Grid) (mark : ℕ) (o : Listing) (w : List ℕ) : Type 0 where
  pub areas_fit : o.areas + o.room ≤ o.items
  pub items_fit : o.items + z.locals ≤ p.keys
  pub spots_fit : p.ends + end_count ends ≤ g.written
  pub written_fits : g.written + block_count blocks * g.words ≤ g.read
  pub read_fits : g.read + block_count blocks * g.words ≤ g.to
  pub to_fits : g.to + z.locals * g.width ≤ mark
  pub fits : mark + g.width + block_count blocks + most_in blocks addresses pieces ≤ length w
  pub small : mark + g.width + block_count blocks < 2 ^ 32
  pub wide : block_count blocks ≤ g.width * 64
  pub narrow : g.width ≤ 64
  pub long : z.locals ≤ g.words * 64
  pub few : z.locals * most_in blocks addresses pieces < 2 ^ 32

-- local l's rows are those of its kind, its touches and its ends
abbrev pub RowsOf : Code → List Piece → Graph → Grid → ℕ → ℕ → List ℕ → Type 0
RowsOf C ps G g n l w = RowsBy G (kind_of C l) (touches_of C ps l) (ends_of C l) g n l w

-- every local can be fetched, its rows stand for some edges and some code, every touch is in the line, and no block is marked
pub record Ready (blocks insts addresses ends pieces : List ℕ) (lay : Lay) (p : Places) (z : Sizes) (g : Grid) (mark : ℕ) (o : Listing) (w : List ℕ) : Type 0 where
  pub sound : Sound (blocks_of blocks)
  pub laid : Fits blocks addresses ends pieces p z g mark o w
  pub spots : fetching.Ready insts addresses ends pieces lay p z w
  pub unmarked : (c : ℕ) → c < g.width * 64 → bit w mark c ≡ false
  pub edges : List Edge
  pub operands : List ℕ
  pub crossings : List ℕ
  pub prepared : Prepared (code_of z.v insts operands crossings addresses ends) lay w z.locals z.edges
  pub rows : (l : ℕ) → l < z.locals → RowsOf (code_of z.v insts operands crossings addresses ends) (pieces_of pieces) (line_of blocks edges) g (block_count blocks) l w
  pub in_line : (l : ℕ) → l < z.locals → AllInLine (blocks_of blocks) (touches_of (code_of z.v insts operands crossings addresses ends) (pieces_of pieces) l)

-- nothing has changed but the areas, the items, the queue, one local's touches and ends, and the words that areas are made in
pub record Spared (blocks addresses ends pieces : List ℕ) (lay : Lay) (p : Places) (g : Grid) (mark : ℕ) (o : Listing) (w₀ w : List ℕ) : Type 0 where
  pub len : length w ≡ length w₀
  pub below : (i : ℕ) → i < o.areas → get_or w i 0 ≡ get_or w₀ i 0
  pub tables : (i : ℕ) → p.keys ≤ i → i < lay.queue → get_or w i 0 ≡ get_or w₀ i 0
  pub chains : (i : ℕ) → p.heads ≤ i → i < p.at → get_or w i 0 ≡ get_or w₀ i 0
  pub rows : (i : ℕ) → p.ends + end_count ends ≤ i → i < mark → get_or w i 0 ≡ get_or w₀ i 0
  pub past : (i : ℕ) → mark + g.width + block_count blocks + most_in blocks addresses pieces ≤ i → get_or w i 0 ≡ get_or w₀ i 0

-- a local's area, by its kind
abbrev pub area_in : Graph → Code → List Piece → ℕ → Option (List Range)
area_in G C ps l = area_by G (kind_of C l) (touches_of C ps l) (ends_of C l)

-- the area of the next local, l, stands behind the `total` ranges so far, where it fits, and its word in the table
pub record Next (blocks insts addresses ends pieces : List ℕ) (lay : Lay) (p : Places) (z : Sizes) (g : Grid) (mark : ℕ) (o : Listing) (l total : ℕ) (w₀ w : List ℕ) (r : ℕ) : Type 0 where
  pub spared : Spared blocks addresses ends pieces lay p g mark o w₀ w
  pub unmarked : (c : ℕ) → c < g.width * 64 → bit w mark c ≡ false
  pub most : r ≤ total + most_in blocks addresses pieces
  pub listed : (operands crossings : List ℕ) → Prepared (code_of z.v insts operands crossings addresses ends) lay w₀ z.locals z.edges
      → (es : List Edge) → RowsOf (code_of z.v insts operands crossings addresses ends) (pieces_of pieces) (line_of blocks es) g (block_count blocks) l w₀
      → (A : ℕ → Option (List Range)) → A l ≡ area_in (line_of blocks es) (code_of z.v insts operands crossings addresses ends) (pieces_of pieces) l
      → ListedBy word_of o A l total w₀ → ListedBy word_of o A (l + 1) r w

-- the areas of the first l locals, for whatever code the tables were prepared and whatever edges the rows were made
pub record ListedTo (blocks insts addresses ends pieces : List ℕ) (lay : Lay) (z : Sizes) (g : Grid) (o : Listing) (l : ℕ) (w₀ w : List ℕ) (r : ℕ) : Type 0 where
  pub is : (operands crossings : List ℕ) → Prepared (code_of z.v insts operands crossings addresses ends) lay w₀ z.locals z.edges
      → (es : List Edge) → ((i : ℕ) → i < z.locals → RowsOf (code_of z.v insts operands crossings addresses ends) (pieces_of pieces) (line_of blocks es) g (block_count blocks) i w₀)
      → (A : ℕ → Option (List Range)) → ((i : ℕ) → i < z.locals → A i ≡ area_in (line_of blocks es) (code_of z.v insts operands crossings addresses ends) (pieces_of pieces) i)
      → ListedBy word_of o A l r w

-- the areas of all locals
pub record MeasuredLocals (blocks insts addresses ends pieces : List ℕ) (lay : Lay) (p : Places) (z : Sizes) (g : Grid) (mark : ℕ) (o : Listing) (w₀ w : List ℕ) (r : ℕ) : Type 0 where
  pub spared : Spared blocks addresses ends pieces lay p g mark o w₀ w
  pub most : r ≤ z.locals * most_in blocks addresses pieces
  pub listed : ListedTo blocks insts addresses ends pieces lay z g o z.locals w₀ w r
