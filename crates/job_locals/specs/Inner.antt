-- What the functions here promise each other. No public promise names these.
use Rattle.std.specs.Prelude.{ℕ, ◌+◌, ◌*◌, ◌^◌, ◌≤◌, ◌<◌, ◌≡◌, false, List, length, get_or}
use Rattle.std.proofs.Math.Option.{Option}
use Rattle.words.specs.Widths.{block_count, edge_count, inst_count, operand_count, mention_width, address_count, end_count}
use Rattle.bits.specs.Bits.{bit}
use Rattle.ranges.specs.declared.Range.{Range}
use Rattle.graph.specs.Line.{blocks_of, jumps_of, edge_verdict, Sound}
use Rattle.graph.specs.Inner.Work.{Within}
use Rattle.components.specs.Entry.{edges_in}
use Rattle.carrying.specs.Carried.{pieces_of, touches_of}
use Rattle.insts.specs.Rows.{AddsUp}
use Rattle.reach.specs.declared.Lay.{Lay}
use Rattle.reach.specs.Prepared.{code_of}
use Rattle.reach.specs.Inner.{Prepared, Laid as LayLaid, row_local}
use Rattle.follow.specs.declared.Sizes.{Sizes}
use Rattle.chains.specs.Inner.{Chain}
use Rattle.live.specs.Inner.{InOrder}
use Rattle.spots.specs.Spots.{line_of}
use Rattle.areas.specs.Blocks.{AllInLine}
use Rattle.area_flow.specs.declared.Grid.{Grid}
use Rattle.area_flow.specs.Inner.{Laid as GridLaid}
use Rattle.area_measure.specs.declared.Listing.{Listing}
use Rattle.area_measure.specs.Inner.Locals.{word_of, ListedBy}
use Rattle.job_spots.specs.declared.Places.{Places}
use Rattle.job_measure.specs.Inner.{most_in, RowsOf, area_in}
use Rattle.follow.specs.Inner as following
use Rattle.job_spots.specs.Inner as fetching
use Rattle.job_marks.specs.Inner as marking
use Rattle.refusals.specs.Verdicts.{Fine}

-- The locals of a job in the work space: what all walks read, the rows of every local, and the areas of all.

-- the counts that a walk goes by
abbrev pub sizes : ℕ → List ℕ → ℕ → ℕ → Sizes
sizes v insts locals edges = record { v = v; insts = inst_count insts; locals = locals; edges = edges }

-- ---- what all walks read

pub record TablesAsked (insts operands addresses ends : List ℕ) (v locals : ℕ) (lay : Lay) (p : Places) (w : List ℕ) : Type 0 where
  pub adds : AddsUp insts operands
  pub few_insts : inst_count insts ≤ 65536
  pub registers : v ≤ 65535
  pub laid : LayLaid lay v (inst_count insts) (operand_count operands) locals (address_count addresses) (length w)
  pub found : (a : ℕ) → a < address_count addresses → get_or addresses (mention_width * a) 0 < inst_count insts
  pub ended : (k : ℕ) → k < end_count ends → get_or ends (mention_width * k) 0 < inst_count insts
  pub queue_fit : lay.queue + inst_count insts ≤ p.heads
  pub heads_fit : p.heads + locals ≤ p.nexts
  pub nexts_fit : p.nexts + end_count ends ≤ length w

pub record TablesIn (insts operands crossings addresses ends : List ℕ) (v locals : ℕ) (lay : Lay) (p : Places) (w₀ w : List ℕ) (r : ℕ) : Type 0 where
  pub kept : Within lay.escapes (p.nexts + end_count ends) w₀ w
  pub walks : following.Ready lay (sizes v insts locals r) insts addresses w
  pub stops : Chain (row_local ends) (end_count ends) locals p.heads p.nexts w
  pub prepared : Prepared (code_of v insts operands crossings addresses ends) lay w locals r

-- ---- the rows of every local

pub record RowsAsked (blocks edges insts addresses ends pieces : List ℕ) (lay : Lay) (p : Places) (z : Sizes) (g : Grid) (mark : ℕ) (w : List ℕ) : Type 0 where
  pub marks : marking.Ready blocks insts addresses ends pieces lay p z g w
  pub edges_fine : edge_verdict (blocks_of blocks) (jumps_of edges) ≡ Fine
  pub grid : GridLaid g (block_count blocks) (edge_count edges) w
  pub base_fits : p.ends + end_count ends ≤ g.base
  pub to_fits : g.to + g.locals * g.width ≤ mark
  pub mark_fits : mark + g.width ≤ length w

pub record RowsIn (blocks edges insts addresses ends pieces : List ℕ) (lay : Lay) (p : Places) (z : Sizes) (g : Grid) (mark : ℕ) (w₀ w : List ℕ) : Type 0 where
  pub kept : Within lay.queue (mark + g.width) w₀ w
  pub chains_kept : (i : ℕ) → p.heads ≤ i → i < p.at → get_or w i 0 ≡ get_or w₀ i 0
  pub unmarked : (c : ℕ) → c < g.width * 64 → bit w mark c ≡ false
  pub rows : (operands crossings : List ℕ) → Prepared (code_of z.v insts operands crossings addresses ends) lay w₀ z.locals z.edges
      → (l : ℕ) → l < z.locals → RowsOf (code_of z.v insts operands crossings addresses ends) (pieces_of pieces) (line_of blocks (edges_in blocks edges)) g (block_count blocks) l w

-- ---- the areas of all

-- what no refusal says of the rows, and where it all stands
pub record Asked (blocks edges insts operands crossings addresses ends pieces : List ℕ) (v locals : ℕ) (lay : Lay) (p : Places) (g : Grid) (mark : ℕ) (o : Listing) (w : List ℕ) : Type 0 where
  pub tables : TablesAsked insts operands addresses ends v locals lay p w
  pub sound : Sound (blocks_of blocks)
  pub edges_fine : edge_verdict (blocks_of blocks) (jumps_of edges) ≡ Fine
  pub in_line : (l : ℕ) → l < locals → AllInLine (blocks_of blocks) (touches_of (code_of v insts operands crossings addresses ends) (pieces_of pieces) l)
  pub keys : InOrder pieces p.keys w
  pub laid : fetching.Laid insts addresses ends pieces lay p (sizes v insts locals 0) w
  pub grid : GridLaid g (block_count blocks) (edge_count edges) w
  pub counted : g.locals ≡ locals
  pub areas_fit : o.areas + o.room ≤ o.items
  pub items_fit : o.items + locals ≤ p.keys
  pub base_fits : p.ends + end_count ends ≤ g.base
  pub to_fits : g.to + g.locals * g.width ≤ mark
  pub fits : mark + g.width + block_count blocks + most_in blocks addresses pieces ≤ length w
  pub small : mark + g.width + block_count blocks < 2 ^ 32
  pub narrow : g.width ≤ 64
  pub few : locals * most_in blocks addresses pieces < 2 ^ 32

-- every local's area stands behind those before it, where it fits; the live pieces stand as they did
pub record LocalsIn (blocks edges insts operands crossings addresses ends pieces : List ℕ) (v locals : ℕ) (lay : Lay) (p : Places) (g : Grid) (mark : ℕ) (o : Listing) (w₀ w : List ℕ)
    (r : ℕ) : Type 0 where
  pub len : length w ≡ length w₀
  pub below : (i : ℕ) → i < o.areas → get_or w i 0 ≡ get_or w₀ i 0
  pub keys : (i : ℕ) → p.keys ≤ i → i < lay.escapes → get_or w i 0 ≡ get_or w₀ i 0
  pub past : (i : ℕ) → mark + g.width + block_count blocks + most_in blocks addresses pieces ≤ i → get_or w i 0 ≡ get_or w₀ i 0
  pub most : r ≤ locals * most_in blocks addresses pieces
  pub listed : (A : ℕ → Option (List Range))
      → ((i : ℕ) → i < locals → A i ≡ area_in (line_of blocks (edges_in blocks edges)) (code_of v insts operands crossings addresses ends) (pieces_of pieces) i)
      → ListedBy word_of o A locals r w
