-- "Lowest number wins" of `moved`: its checks give numbers 1, 2, 4, 5 and 7, in this order.
use Prim.Native.Nat.{ℕ, ◌*◌, ◌%◌}
use mathlib.Core.Path.{refl}
use mathlib.Core.Bool.{not, ◌||◌}
use mathlib.Core.List.{List, [], ◌∷◌}
use lib.ListN.{length}
use lib.Dec.{ltb, eqb}
use Rattle.refusals.specs.declared.Refusal.TheVariants.{Count, Line, Inst, Stray, Space}
use Rattle.refusals.specs.Verdicts.{number_of, first, check, Verdict}
use Rattle.refusals.specs.Orders.{Gives, Ordered}
use Rattle.refusals.proofs.Orders.{check_gives, first_gives, scan_gives}
use Rattle.words.specs.Widths.{block_width, block_count, inst_width, inst_count, operand_width, operand_count, move_width, move_count}
use Rattle.insts.specs.Inner.{bad_rows}
use Rattle.insts.specs.Counts.{rows_verdict, most_verdict, offset, add_up, block_counts, inst_counts}
use Rattle.moved_ranges.specs.Moved.{moved_counts, moved_space, moved_checks}

module _ (v : ℕ) (blocks insts operands moves : List ℕ) (lent : ℕ) where
  code_gives : Gives Count (inst_counts insts operands)
  unfolding inst_counts
  code_gives =
      first_gives Count (rows_verdict inst_width 65536 (length insts)) (first (rows_verdict operand_width 262144 (length operands)) (add_up insts operands)) (check_gives Count (bad_rows inst_width 65536 (length insts)))
      (first_gives Count (rows_verdict operand_width 262144 (length operands)) (add_up insts operands) (check_gives Count (bad_rows operand_width 262144 (length operands)))
      (check_gives Count (not (eqb (offset insts (inst_count insts)) (operand_count operands)))))

  blocks_give : Gives Count (block_counts blocks)
  blocks_give = first_gives Count (rows_verdict block_width 4096 (length blocks)) (check Count (ltb (block_count blocks) 1)) (check_gives Count (bad_rows block_width 4096 (length blocks))) (check_gives Count (ltb (block_count blocks) 1))

  abbrev Rows : Verdict
  Rows = first (rows_verdict move_width 65536 (length moves)) (check Count (not (eqb (lent % 2) 0)))

  rows_give : Gives Count Rows
  rows_give = first_gives Count (rows_verdict move_width 65536 (length moves)) (check Count (not (eqb (lent % 2) 0))) (check_gives Count (bad_rows move_width 65536 (length moves))) (check_gives Count (not (eqb (lent % 2) 0)))

  counts_give : Gives Count (moved_counts v blocks insts operands moves lent)
  unfolding moved_counts
  counts_give =
      first_gives Count (most_verdict 65535 v) (first (block_counts blocks) (first (inst_counts insts operands) Rows)) (check_gives Count (ltb 65535 v))
      (first_gives Count (block_counts blocks) (first (inst_counts insts operands) Rows) blocks_give (first_gives Count (inst_counts insts operands) Rows code_gives rows_give))

pub moved_ordered : (points v : ℕ) (blocks insts operands moves : List ℕ) (lent work : ℕ)
    → Ordered number_of (Count ∷ Line ∷ Inst ∷ Stray ∷ Space ∷ []) (moved_checks points v blocks insts operands moves lent work)
moved_ordered points v blocks insts operands moves lent work = record {
  gives = (counts_give v blocks insts operands moves lent, (scan_gives Line _ _, (scan_gives Inst _ _, (scan_gives Stray _ _, (check_gives Space (ltb lent (4 * move_count moves) || ltb work (moved_space v blocks insts operands moves)), tt)))));
  rises = refl;
}
