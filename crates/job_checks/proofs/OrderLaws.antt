-- Which refusal each check of a job's records gives.
use Prim.Native.Nat.{ℕ}
use mathlib.Core.Bool.{not}
use mathlib.Core.List.{List}
use lib.ListN.{length}
use lib.Dec.{eqb, ltb}
use Rattle.refusals.specs.declared.Refusal.TheVariants.{Count, Line, Edge, Inst, Stray, Piece}
use Rattle.refusals.specs.Orders.{Gives, Giving}
use Rattle.refusals.proofs.Orders.{check_gives, first_gives, scan_gives}
use Rattle.words.specs.Widths.{block_width, block_count, edge_width, inst_width, inst_count, operand_width, operand_count, local_width, mention_width, piece_width, assigned_width, move_width, range_width}
use Rattle.insts.specs.Inner.{bad_rows}
use Rattle.insts.specs.Counts.{rows_verdict, most_verdict, offset, inst_counts, code_counts}
use Rattle.areas.specs.Job.{Job, checks}
use Rattle.carry_checks.specs.Checks.{carry_counts}
use Rattle.job_space.specs.Rows.{Rows}
use Rattle.job_checks.specs.Job.{other_counts, count_verdict, checks_give}

pub rows_give : (width limit n : ℕ) → Gives Count (rows_verdict width limit n)
rows_give width limit n = check_gives Count (bad_rows width limit n)

pub most_gives : (limit n : ℕ) → Gives Count (most_verdict limit n)
most_gives limit n = check_gives Count (ltb limit n)

inst_counts_give : (insts operands : List ℕ) → Gives Count (inst_counts insts operands)
unfolding inst_counts
inst_counts_give insts operands =
    first_gives Count _ _ (rows_give inst_width 65536 (length insts))
    (first_gives Count _ _ (rows_give operand_width 262144 (length operands)) (check_gives Count (not (eqb (offset insts (inst_count insts)) (operand_count operands)))))

code_counts_give : (v : ℕ) (insts operands crossings locals addresses ends : List ℕ) → Gives Count (code_counts v insts operands crossings locals addresses ends)
unfolding code_counts
code_counts_give v insts operands crossings locals addresses ends =
    first_gives Count _ _ (most_gives 65535 v)
    (first_gives Count _ _ (inst_counts_give insts operands)
    (first_gives Count _ _ (most_gives 65536 (length crossings))
    (first_gives Count _ _ (rows_give local_width 2048 (length locals))
    (first_gives Count _ _ (rows_give mention_width 65536 (length addresses)) (rows_give mention_width 65536 (length ends))))))

carry_counts_give : (v : ℕ) (blocks insts operands crossings locals addresses ends : List ℕ) → Gives Count (carry_counts v blocks insts operands crossings locals addresses ends)
unfolding carry_counts
carry_counts_give v blocks insts operands crossings locals addresses ends =
    first_gives Count _ _ (first_gives Count _ _ (rows_give block_width 4096 (length blocks)) (check_gives Count (ltb (block_count blocks) 1)))
    (code_counts_give v insts operands crossings locals addresses ends)

others_give : (edges slots pieces assigned moves areas : ℕ) → Gives Count (other_counts edges slots pieces assigned moves areas)
unfolding other_counts
others_give edges slots pieces assigned moves areas =
    first_gives Count _ _ (rows_give edge_width 16384 edges)
    (first_gives Count _ _ (most_gives 2048 slots)
    (first_gives Count _ _ (rows_give piece_width 65536 pieces)
    (first_gives Count _ _ (rows_give assigned_width 65536 assigned)
    (first_gives Count _ _ (rows_give move_width 65536 moves) (rows_give range_width 65536 areas)))))

pub counts_give : (R : Rows) (areas : ℕ) → Gives Count (count_verdict R areas)
unfolding count_verdict
counts_give R areas =
    first_gives Count _ _ (carry_counts_give R.v R.blocks R.insts R.operands R.crossings R.locals R.addresses R.ends)
    (others_give (length R.edges) (length R.slots) (length R.pieces) (length R.assigned) (length R.moves) areas)

pub checks_give_lem : (J : Job) → Giving checks_give (checks J)
checks_give_lem J = (
  scan_gives Line _ _,
  (
    scan_gives Edge _ _,
    (
      scan_gives Inst _ _,
      (
        scan_gives Inst _ _,
        (scan_gives Stray _ _, (scan_gives Stray _ _, (scan_gives Stray _ _, (scan_gives Piece _ _, (scan_gives Piece _ _, tt))))),
      ),
    ),
  ),
)
