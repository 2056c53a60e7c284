-- Document 01: a job as its rows are lent, number 1 of it, and what no refusal by numbers 1 to 6 says.
use Rattle.std.specs.Prelude.{ℕ, ◌*◌, ◌<◌, ◌≡◌, List, [], ◌∷◌, length, get_or}
use Rattle.refusals.specs.declared.Refusal.{Refusal}
use Rattle.refusals.specs.declared.Refusal.TheVariants.{Line, Edge, Inst, Stray, Piece}
use Rattle.refusals.specs.Verdicts.{first, Fine, Verdict}
use Rattle.words.specs.Widths.{edge_width, inst_count, mention_width, address_count, end_count, piece_width, assigned_width, move_width, range_width}
use Rattle.graph.specs.Line.{blocks_of, jumps_of, edge_verdict, Sound}
use Rattle.carrying.specs.Insts.{insts_of}
use Rattle.carrying.specs.Carried.{pieces_of}
use Rattle.carrying.specs.Checks.{inst_verdict}
use Rattle.areas.specs.Slots.{assigned_of, moves_of, move_verdict, piece_verdict, assigned_verdict}
use Rattle.areas.specs.Job.{Job, locals_of, Checked}
use Rattle.insts.specs.Counts.{rows_verdict, most_verdict}
use Rattle.insts.specs.Rows.{AddsUp}
use Rattle.reach.specs.Prepared.{code_of}
use Rattle.carry_checks.specs.Checks.{carry_counts}
use Rattle.job_space.specs.Rows.{Rows}
use Rattle.job_space.specs.Space.{sizes_of, Small}

-- the records of the rows, in the job text's group order
abbrev pub job_of : Rows → Job
job_of R = record {
  points = R.points;
  blocks = blocks_of R.blocks;
  jumps = jumps_of R.edges;
  code = code_of R.v R.insts R.operands R.crossings R.addresses R.ends;
  locals = locals_of R.locals;
  slots = R.slots;
  pieces = pieces_of R.pieces;
  assigned = assigned_of R.assigned;
  moves = moves_of R.moves;
}

-- "edges 16,384; slots 2,048; live pieces, assignments, moves and the area list 65,536 each", by their lengths in numbers
unfoldable pub other_counts : ℕ → ℕ → ℕ → ℕ → ℕ → ℕ → Verdict
other_counts edges slots pieces assigned moves areas =
    first (rows_verdict edge_width 16384 edges) (first (most_verdict 2048 slots) (first (rows_verdict piece_width 65536 pieces) (first (rows_verdict assigned_width 65536 assigned)
    (first (rows_verdict move_width 65536 moves) (rows_verdict range_width 65536 areas)))))

-- number 1: "a count outside its limits", the area list by its length in numbers; numbers that are no whole records, and operand counts that do not add up, are no count
unfoldable pub count_verdict : Rows → ℕ → Verdict
count_verdict R areas =
    first (carry_counts R.v R.blocks R.insts R.operands R.crossings R.locals R.addresses R.ends)
    (other_counts (length R.edges) (length R.slots) (length R.pieces) (length R.assigned) (length R.moves) areas)

-- which refusal each of a job's `checks` gives: numbers 2 to 6
abbrev pub checks_give : List Refusal
checks_give = Line ∷ Edge ∷ Inst ∷ Inst ∷ Stray ∷ Stray ∷ Stray ∷ Piece ∷ Piece ∷ []

-- what no refusal says of the rows
pub record Passed (R : Rows) (areas : ℕ) : Type 0 where
  pub small : Small (sizes_of R areas)
  pub adds : AddsUp R.insts R.operands
  pub checked : Checked (job_of R)
  pub sound : Sound (blocks_of R.blocks)
  pub edges_fine : edge_verdict (blocks_of R.blocks) (jumps_of R.edges) ≡ Fine
  pub insts_fine : inst_verdict (blocks_of R.blocks) R.v (insts_of R.insts R.operands) ≡ Fine
  pub found : (a : ℕ) → a < address_count R.addresses → get_or R.addresses (mention_width * a) 0 < inst_count R.insts
  pub ended : (k : ℕ) → k < end_count R.ends → get_or R.ends (mention_width * k) 0 < inst_count R.insts
  pub moves_fine : move_verdict (blocks_of R.blocks) (insts_of R.insts []) (moves_of R.moves) ≡ Fine
  pub pieces_fine : piece_verdict (blocks_of R.blocks) R.v (pieces_of R.pieces) ≡ Fine
  pub assigned_fine : assigned_verdict R.v (assigned_of R.assigned) ≡ Fine
