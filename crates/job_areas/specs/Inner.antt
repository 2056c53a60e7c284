-- What the functions here promise each other. No public promise names these.
use Rattle.std.specs.Prelude.{ℕ, ◌+◌, ◌*◌, ◌/◌, ◌^◌, ◌≤◌, ◌<◌, ◌≡◌, List, [], length, get_or}
use Rattle.std.proofs.Math.Option.{Option}
use Rattle.words.specs.Widths.{block_count, local_count, piece_count, move_count, range_width}
use Rattle.ranges.specs.declared.Range.{Range}
use Rattle.graph.specs.Line.{blocks_of, Sound}
use Rattle.graph.specs.Inner.Work.{Within}
use Rattle.carrying.specs.Insts.{insts_of}
use Rattle.areas.specs.Slots.{assigned_of, spilled, moves_of, move_verdict}
use Rattle.areas.specs.Job.{item_count, item_area, local_area}
use Rattle.live.specs.Inner.{InOrder}
use Rattle.slot_spots.specs.declared.Places.{Places}
use Rattle.slot_spots.specs.Inner.{held_word, Laid}
use Rattle.area_measure.specs.declared.Listing.{Listing}
use Rattle.area_measure.specs.Inner.Locals.{word_of, ListedBy}
use Rattle.slot_measure.specs.Inner.{most_for, AreasBy}
use Rattle.area_tables.specs.Inner.{listing}
use Rattle.job_space.specs.declared.Sizes.{Sizes}
use Rattle.job_space.specs.Rows.{Rows}
use Rattle.job_space.specs.Space.{sizes_of, space_of, Small}
use Rattle.job_checks.specs.Job.{job_of, Passed}
use Rattle.job_layout.specs.declared.Regions.{Regions}
use Rattle.job_layout.specs.Inner.{Placed, most_of_local}
use Rattle.refusals.specs.Verdicts.{Fine}

-- The areas of all items of a job in the work space.

-- ---- the slots' phase

pub record SlotsAsked (blocks insts moves pieces assigned : List ℕ) (p : Places) (keys held : ℕ) (o : Listing) (first total : ℕ) (w : List ℕ) : Type 0 where
  pub sound : Sound (blocks_of blocks)
  pub fine : move_verdict (blocks_of blocks) (insts_of insts []) (moves_of moves) ≡ Fine
  pub registers : (s : ℕ) → held_word (spilled (assigned_of assigned) s) ≤ 4294967296
  pub order : InOrder pieces keys w
  pub few_pieces : piece_count pieces ≤ 65536
  pub few_moves : move_count moves ≤ 65536
  pub areas_fit : o.areas + o.room ≤ o.items
  pub items_fit : o.items + first + p.slots ≤ keys
  pub keys_fit : keys + piece_count pieces ≤ held
  pub held_fits : held + p.slots ≤ p.table
  pub laid : Laid p (block_count blocks) (move_count moves) w
  pub fits : p.to + move_count moves + move_count moves + piece_count pieces ≤ length w
  pub few : total + p.slots * most_for moves pieces < 2 ^ 32

-- the slots' areas stand behind those before them; nothing has changed below the areas, nor past the words that the slots' are made in
pub record SlotsIn (points : ℕ) (blocks insts moves pieces assigned : List ℕ) (p : Places) (keys held : ℕ) (o : Listing) (first total : ℕ) (w₀ w : List ℕ) (r : ℕ) : Type 0 where
  pub kept : Within o.areas (p.to + move_count moves + move_count moves + piece_count pieces) w₀ w
  pub listed : (A : ℕ → Option (List Range)) → AreasBy points blocks insts moves pieces first p.slots A (spilled (assigned_of assigned))
      → ListedBy word_of o A first total w₀ → ListedBy word_of o A (first + p.slots) r w

-- ---- all items

-- what no refusal before measuring says: numbers 1 to 6 of the records, and of number 7 the work space
pub record Lent (R : Rows) (areas : ℕ) (w : List ℕ) : Type 0 where
  pub passed : Passed R areas
  pub space : space_of (sizes_of R areas) ≤ length w

-- what the locals' phase goes by: the counts, the regions, and the live pieces in order
pub record LocalsDue (R : Rows) (areas : ℕ) (z : Sizes) (r : Regions) (w : List ℕ) : Type 0 where
  pub lent : Lent R areas w
  pub sizes : z ≡ sizes_of R areas
  pub placed : Placed z r
  pub order : InOrder R.pieces r.keys w

-- the areas of the locals; the live pieces stand as they did, and nothing past W has changed
pub record LocalsDone (R : Rows) (areas : ℕ) (r : Regions) (w₀ w : List ℕ) (n : ℕ) : Type 0 where
  pub len : length w ≡ length w₀
  pub keys : (i : ℕ) → r.keys ≤ i → i < r.free → get_or w i 0 ≡ get_or w₀ i 0
  pub past : (i : ℕ) → space_of (sizes_of R areas) ≤ i → get_or w i 0 ≡ get_or w₀ i 0
  pub most : n ≤ local_count R.locals * most_of_local (sizes_of R areas)
  pub listed : (A : ℕ → Option (List Range))
      → ((i : ℕ) → i < local_count R.locals → A i ≡ local_area (job_of R) i)
      → ListedBy word_of (listing (areas / range_width) r.items) A (local_count R.locals) n w

-- what the slots' phase goes by
pub record SlotsDue (points : ℕ) (blocks insts pieces assigned moves : List ℕ) (z : Sizes) (r : Regions) (total : ℕ) (w : List ℕ) : Type 0 where
  pub small : Small z
  pub placed : Placed z r
  pub blocks_are : z.blocks ≡ block_count blocks
  pub pieces_are : z.pieces ≡ piece_count pieces
  pub moves_are : z.moves ≡ move_count moves
  pub sound : Sound (blocks_of blocks)
  pub fine : move_verdict (blocks_of blocks) (insts_of insts []) (moves_of moves) ≡ Fine
  pub registers : (s : ℕ) → held_word (spilled (assigned_of assigned) s) ≤ 4294967296
  pub order : InOrder pieces r.keys w
  pub space : space_of z ≤ length w
  pub most : total ≤ z.locals * most_of_local z

pub record SlotsDone (points : ℕ) (blocks insts pieces assigned moves : List ℕ) (z : Sizes) (r : Regions) (total : ℕ) (w₀ w : List ℕ) (n : ℕ) : Type 0 where
  pub kept : Within 0 (space_of z) w₀ w
  pub listed : (A : ℕ → Option (List Range)) → AreasBy points blocks insts moves pieces z.locals z.slots A (spilled (assigned_of assigned))
      → ListedBy word_of (listing z.room r.items) A z.locals total w₀ → ListedBy word_of (listing z.room r.items) A (z.locals + z.slots) n w

-- the areas of all items of the job, and their words behind the room of the area list; nothing past W has changed
pub record Solved (R : Rows) (areas : ℕ) (w₀ w : List ℕ) (n : ℕ) : Type 0 where
  pub kept : Within 0 (space_of (sizes_of R areas)) w₀ w
  pub listed : ListedBy word_of (listing (areas / range_width) (areas / range_width)) (item_area (job_of R)) (item_count (job_of R)) n w
