-- "Lowest number wins" of `reach` and `carried`: their checks give numbers 1, 2, 4, 5 and 7, in this order.
use Prim.Native.Nat.{ℕ}
use mathlib.Core.Path.{refl}
use mathlib.Core.Bool.{not, ◌||◌}
use mathlib.Core.List.{List, [], ◌∷◌}
use lib.ListN.{length}
use lib.Dec.{ltb, eqb}
use Rattle.refusals.specs.declared.Refusal.TheVariants.{Count, Line, Inst, Stray, Space}
use Rattle.refusals.specs.Verdicts.{number_of, first, check, Verdict}
use Rattle.refusals.specs.Orders.{Gives, Ordered}
use Rattle.refusals.proofs.Orders.{check_gives, first_gives, scan_gives}
use Rattle.words.specs.Widths.{block_width, block_count, inst_width, inst_count, operand_width, operand_count, local_width, mention_width}
use Rattle.insts.specs.Inner.{bad_rows}
use Rattle.insts.specs.Counts.{rows_verdict, most_verdict, offset, add_up, block_counts, inst_counts, code_counts}
use Rattle.carry_checks.specs.Checks.{carry_counts, carry_space, carry_checks}

module _ (v : ℕ) (blocks insts operands crossings locals addresses ends : List ℕ) where
  insts_give : Gives Count (inst_counts insts operands)
  unfolding inst_counts
  insts_give =
      first_gives Count (rows_verdict inst_width 65536 (length insts)) (first (rows_verdict operand_width 262144 (length operands)) (add_up insts operands)) (check_gives Count (bad_rows inst_width 65536 (length insts)))
      (first_gives Count (rows_verdict operand_width 262144 (length operands)) (add_up insts operands) (check_gives Count (bad_rows operand_width 262144 (length operands)))
      (check_gives Count (not (eqb (offset insts (inst_count insts)) (operand_count operands)))))

  -- the lists that name the code
  abbrev Named : Verdict
  Named = first (rows_verdict local_width 2048 (length locals)) (first (rows_verdict mention_width 65536 (length addresses)) (rows_verdict mention_width 65536 (length ends)))

  named_gives : Gives Count Named
  named_gives =
      first_gives Count (rows_verdict local_width 2048 (length locals)) (first (rows_verdict mention_width 65536 (length addresses)) (rows_verdict mention_width 65536 (length ends))) (check_gives Count (bad_rows local_width 2048 (length locals)))
      (first_gives Count (rows_verdict mention_width 65536 (length addresses)) (rows_verdict mention_width 65536 (length ends)) (check_gives Count (bad_rows mention_width 65536 (length addresses))) (check_gives Count (bad_rows mention_width 65536 (length ends))))

  abbrev Crossed : Verdict
  Crossed = first (most_verdict 65536 (length crossings)) Named

  code_gives : Gives Count (code_counts v insts operands crossings locals addresses ends)
  unfolding code_counts
  code_gives =
      first_gives Count (most_verdict 65535 v) (first (inst_counts insts operands) Crossed) (check_gives Count (ltb 65535 v))
      (first_gives Count (inst_counts insts operands) Crossed insts_give (first_gives Count (most_verdict 65536 (length crossings)) Named (check_gives Count (ltb 65536 (length crossings))) named_gives))

  counts_give : Gives Count (carry_counts v blocks insts operands crossings locals addresses ends)
  unfolding carry_counts
  counts_give =
      first_gives Count (block_counts blocks) (code_counts v insts operands crossings locals addresses ends)
      (first_gives Count (rows_verdict block_width 4096 (length blocks)) (check Count (ltb (block_count blocks) 1)) (check_gives Count (bad_rows block_width 4096 (length blocks))) (check_gives Count (ltb (block_count blocks) 1)))
      code_gives

  pub carry_ordered : (points lent most work : ℕ)
      → Ordered number_of (Count ∷ Line ∷ Inst ∷ Inst ∷ Stray ∷ Stray ∷ Space ∷ []) (carry_checks points v blocks insts operands crossings locals addresses ends lent most work)
  carry_ordered points lent most work = record {
    gives = (counts_give, (scan_gives Line _ _, (scan_gives Inst _ _, (scan_gives Inst _ _, (scan_gives Stray _ _, (scan_gives Stray _ _, (check_gives Space (ltb lent most || ltb work (carry_space v blocks insts operands crossings locals addresses ends)), tt)))))));
    rises = refl;
  }
