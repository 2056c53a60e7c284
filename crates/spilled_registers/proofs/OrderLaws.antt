-- "Lowest number wins" of `spilled`: its checks give numbers 1, 6 and 7, in this order.
use Prim.Native.Nat.{ℕ}
use mathlib.Core.Path.{refl}
use mathlib.Core.Bool.{◌||◌}
use mathlib.Core.List.{List, [], ◌∷◌}
use lib.ListN.{length}
use lib.Dec.{ltb}
use Rattle.refusals.specs.declared.Refusal.TheVariants.{Count, Piece, Space}
use Rattle.refusals.specs.Verdicts.{number_of, first}
use Rattle.refusals.specs.Orders.{Gives, Ordered}
use Rattle.refusals.proofs.Orders.{check_gives, first_gives, scan_gives}
use Rattle.insts.specs.Inner.{bad_rows}
use Rattle.insts.specs.Counts.{rows_verdict, most_verdict}
use Rattle.spilled_registers.specs.Spilled.{spilled_counts, spilled_space, spilled_checks}
use Rattle.words.specs.Widths.{assigned_width}

counts_give : (v slots : ℕ) (assigned : List ℕ) → Gives Count (spilled_counts v slots assigned)
unfolding spilled_counts
counts_give v slots assigned =
    first_gives Count (most_verdict 65535 v) (first (most_verdict 2048 slots) (rows_verdict assigned_width 65536 (length assigned))) (check_gives Count (ltb 65535 v))
    (first_gives Count (most_verdict 2048 slots) (rows_verdict assigned_width 65536 (length assigned)) (check_gives Count (ltb 2048 slots)) (check_gives Count (bad_rows assigned_width 65536 (length assigned))))

pub spilled_ordered : (v slots : ℕ) (assigned : List ℕ) (lent work : ℕ) → Ordered number_of (Count ∷ Piece ∷ Space ∷ []) (spilled_checks v slots assigned lent work)
spilled_ordered v slots assigned lent work = record {
  gives = (counts_give v slots assigned, (scan_gives Piece _ _, (check_gives Space (ltb lent slots || ltb work (spilled_space v assigned)), tt)));
  rises = refl;
}
