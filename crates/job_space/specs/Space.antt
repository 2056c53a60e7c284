-- Document 01: the counts of a job's records, W, and number 1 of what only fitting takes.
use Rattle.std.specs.Prelude.{ℕ, ◌+◌, ◌*◌, ◌/◌, ◌%◌, ◌≤◌, ◌<◌, Bool, not, ◌||◌, length, ltb, eqb}
use Rattle.words.specs.Rows.{row_count}
use Rattle.words.specs.Widths.{block_width, edge_width, inst_width, operand_width, local_width, mention_width, piece_width, assigned_width, move_width, cell_width, item_width, range_width}
use Rattle.words.specs.Widths.{block_count, edge_count, inst_count, operand_count, local_count, address_count, end_count, piece_count, assigned_count, move_count}
use Rattle.words.specs.Regions.{row_words}
use Rattle.fitting.specs.declared.Terms.{Terms}
use Rattle.job_space.specs.declared.Sizes.{Sizes}
use Rattle.job_space.specs.Rows.{Rows}

-- all record counts
abbrev pub record_count : Rows → ℕ
record_count R =
    row_count block_width R.blocks + row_count edge_width R.edges + row_count inst_width R.insts + row_count operand_width R.operands + length R.crossings
    + row_count local_width R.locals + length R.slots + row_count mention_width R.addresses + row_count mention_width R.ends
    + row_count piece_width R.pieces + row_count assigned_width R.assigned + row_count move_width R.moves

-- W = 8 × (all record counts + B × ⌈locals/64⌉ + area list length + ⌈V/64⌉), of an area list by its length in numbers
abbrev pub job_words : Rows → ℕ → ℕ
job_words R areas = 8 * (record_count R + row_count block_width R.blocks * row_words (row_count local_width R.locals) + areas / range_width + row_words R.v)

-- how many records are lent, how many ranges the area list holds, and V
abbrev pub sizes_of : Rows → ℕ → Sizes
sizes_of R areas = record {
  v = R.v;
  blocks = block_count R.blocks;
  edges = edge_count R.edges;
  insts = inst_count R.insts;
  operands = operand_count R.operands;
  crossings = length R.crossings;
  locals = local_count R.locals;
  slots = length R.slots;
  addresses = address_count R.addresses;
  ends = end_count R.ends;
  pieces = piece_count R.pieces;
  assigned = assigned_count R.assigned;
  moves = move_count R.moves;
  room = areas / range_width;
}

-- the same by numbers of records
abbrev pub space_of : Sizes → ℕ
space_of z =
    8 * (z.blocks + z.edges + z.insts + z.operands + z.crossings + z.locals + z.slots + z.addresses + z.ends + z.pieces + z.assigned + z.moves
    + z.blocks * row_words z.locals + z.room + row_words z.v)

-- within the limits
pub record Small (z : Sizes) : Type 0 where
  pub registers : z.v ≤ 65535
  pub some_block : 0 < z.blocks
  pub few_blocks : z.blocks ≤ 4096
  pub few_edges : z.edges ≤ 16384
  pub few_insts : z.insts ≤ 65536
  pub few_operands : z.operands ≤ 262144
  pub few_crossings : z.crossings ≤ 65536
  pub few_locals : z.locals ≤ 2048
  pub few_slots : z.slots ≤ 2048
  pub few_addresses : z.addresses ≤ 65536
  pub few_ends : z.ends ≤ 65536
  pub few_pieces : z.pieces ≤ 65536
  pub few_assigned : z.assigned ≤ 65536
  pub few_moves : z.moves ≤ 65536
  pub few_ranges : z.room ≤ 65536

-- number 1 of what only fitting takes: the budget over 1,048,576, a cell or an item list that is no whole rows
abbrev pub bad_shape : Terms → ℕ → ℕ → Bool
bad_shape t cells items = ltb 1048576 t.budget || (not (eqb (cells % cell_width) 0) || not (eqb (items % item_width) 0))
