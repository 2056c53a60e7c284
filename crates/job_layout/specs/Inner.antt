-- What the functions here promise each other. No public promise names these.
use Rattle.std.specs.Prelude.{ℕ, ◌+◌, ◌*◌, ◌^◌, ◌≤◌, ◌<◌, ◌≡◌, List, length}
use Rattle.reach.specs.declared.Lay.{Lay}
use Rattle.reach.specs.Inner.{Laid as CarryLaid}
use Rattle.carry_checks.specs.Inner.{used_of}
use Rattle.area_flow.specs.declared.Grid.{Grid}
use Rattle.area_flow.specs.Inner.{Laid as GridLaid}
use Rattle.area_layout.specs.declared.Sizes.{Sizes as GridSizes}
use Rattle.area_layout.specs.Inner.{mark_of}
use Rattle.slot_spots.specs.declared.Places.{Places}
use Rattle.slot_spots.specs.Inner.{Laid as SlotLaid}
use Rattle.job_space.specs.declared.Sizes.{Sizes}
use Rattle.job_space.specs.Space.{space_of}
use Rattle.job_layout.specs.declared.Regions.{Regions}
use Rattle.words.specs.Regions.{row_words}

-- The work space of a job: where the regions stand, one behind another, and what has to fit W.

-- the counts that the grid goes by; it has no region for the others
abbrev pub grid_sizes : Sizes → GridSizes
grid_sizes z = record { blocks = z.blocks; edges = z.edges; locals = z.locals; touches = 0; ends = 0; room = 0 }

-- the areas from 0 on; items, live pieces, carrying; the chains of the ends, the touches and the ends of one local; the grid
pub record Placed (z : Sizes) (r : Regions) : Type 0 where
  pub items_at : r.items ≡ z.room
  pub keys_at : r.keys ≡ r.items + z.locals + z.slots
  pub free_at : r.free ≡ r.keys + z.pieces
  pub heads_at : r.heads ≡ r.free + used_of (row_words z.v) z.insts z.operands z.locals z.addresses
  pub nexts_at : r.nexts ≡ r.heads + z.locals
  pub touches_at : r.at ≡ r.nexts + z.ends
  pub ends_at : r.ends ≡ r.at + z.pieces + z.pieces + z.addresses
  pub base_at_lem : r.base ≡ r.ends + z.ends

-- what carrying keeps
pub record LaidFrom (z : Sizes) (from : ℕ) (lay : Lay) : Type 0 where
  pub escapes_at : lay.escapes ≡ from
  pub dead_at : lay.dead ≡ lay.escapes + row_words z.v
  pub seen_at : lay.seen ≡ lay.dead + row_words z.v
  pub defs_at : lay.defs ≡ lay.seen + row_words z.v
  pub firsts_at : lay.firsts ≡ lay.defs + z.insts
  pub edges_at : lay.edges ≡ lay.firsts + z.insts
  pub heads_at : lay.heads ≡ lay.edges + z.operands
  pub nexts_at : lay.nexts ≡ lay.heads + z.locals
  pub ended_at : lay.ended ≡ lay.nexts + z.addresses
  pub queue_at : lay.queue ≡ lay.ended + z.locals

-- what slots have: the registers that they hold stand first
pub record SlotsFrom (z : Sizes) (from : ℕ) (p : Places) : Type 0 where
  pub slots_are : p.slots ≡ z.slots
  pub table_at : p.table ≡ from + z.slots
  pub heads_at : p.heads ≡ p.table + z.blocks
  pub nexts_at : p.nexts ≡ p.heads + z.slots + z.slots
  pub to_at : p.to ≡ p.nexts + z.moves + z.moves

-- the most touches that a local has, the most ranges that one local's area is made of, and that a slot's is
abbrev pub most_touches : Sizes → ℕ
most_touches z = z.pieces + z.addresses

abbrev pub most_of_local : Sizes → ℕ
most_of_local z = 3 * most_touches z + z.blocks

abbrev pub most_of_slot : Sizes → ℕ
most_of_slot z = z.moves + z.moves + z.pieces

-- both phases end within W; the locals', where there are locals, with a word to spare
pub record Fits (z : Sizes) (g : Grid) (p : Places) : Type 0 where
  pub locals_fit : 0 < z.locals → mark_of g + g.width + z.blocks + most_of_local z < space_of z
  pub slots_fit : p.to + most_of_slot z ≤ space_of z

-- the locals' regions in their order, and how long their rows are
pub record Order (z : Sizes) (r : Regions) (lay : Lay) (g : Grid) : Type 0 where
  pub items_fit : r.items + z.locals + z.slots ≤ r.keys
  pub keys_fit : r.keys + z.pieces ≤ lay.escapes
  pub queue_fit : lay.queue + z.insts ≤ r.heads
  pub heads_fit : r.heads + z.locals ≤ r.nexts
  pub nexts_fit : r.nexts + z.ends ≤ r.at
  pub at_fits : r.at + (z.pieces + z.pieces + z.addresses) ≤ r.ends
  pub ends_fit : r.ends + z.ends ≤ g.base
  pub base_fits : g.base ≤ g.touched
  pub touched_fits : g.touched + z.blocks * g.words ≤ g.leaves
  pub leaves_fit : g.leaves + z.blocks * g.words ≤ g.passes
  pub passes_fit : g.passes + z.blocks * g.words ≤ g.written
  pub written_fits : g.written + z.blocks * g.words ≤ g.read
  pub read_fits : g.read + z.blocks * g.words ≤ g.to
  pub to_fits : g.to + z.locals * g.width ≤ mark_of g
  pub small : mark_of g + g.width + z.blocks < 2 ^ 64
  pub wide : z.blocks ≤ g.width * 64
  pub narrow : g.width ≤ 64
  pub long : z.locals ≤ g.words * 64

-- the slots' regions in their order
pub record SlotOrder (z : Sizes) (r : Regions) (p : Places) : Type 0 where
  pub items_fit : r.items + z.locals + p.slots ≤ r.keys
  pub keys_fit : r.keys + z.pieces ≤ r.free
  pub held_fits : r.free + p.slots ≤ p.table
  pub keys_by : r.keys + z.pieces ≤ p.to

-- in a work space of W words or more: the locals' regions as carrying, the grid and the areas ask for them
pub record LocalsLaid (z : Sizes) (r : Regions) (lay : Lay) (g : Grid) (w : List ℕ) : Type 0 where
  pub order : Order z r lay g
  pub carry : CarryLaid lay z.v z.insts z.operands z.locals z.addresses (length w)
  pub grid : GridLaid g z.blocks z.edges w
  pub fits : mark_of g + g.width + z.blocks + most_of_local z ≤ length w

-- and the slots'
pub record SlotsLaid (z : Sizes) (r : Regions) (p : Places) (w : List ℕ) : Type 0 where
  pub order : SlotOrder z r p
  pub laid : SlotLaid p z.blocks z.moves w
  pub fits : p.to + most_of_slot z ≤ length w
