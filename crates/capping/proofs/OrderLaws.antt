-- `cap` makes one check, of number 1.
use Prim.Native.Nat.{ℕ}
use mathlib.Core.Path.{◌≡◌, refl, sym}
use mathlib.Core.Bool.{not, ◌||◌}
use mathlib.Core.List.{List, [], ◌∷◌}
use lib.Dec.{ltb}
use Rattle.refusals.specs.declared.Refusal.TheVariants.{Count}
use Rattle.refusals.specs.Verdicts.{number_of, in_order}
use Rattle.refusals.specs.Orders.{Ordered}
use Rattle.refusals.proofs.Laws.{check_last}
use Rattle.refusals.proofs.Orders.{check_gives}
use Rattle.words.specs.Rows.{whole_rows}
use Rattle.words.specs.Widths.{cell_width, cell_count}
use Rattle.capping.specs.Cap.{cap_verdict, cap_checks}

pub cap_verdict_lem : (cells : List ℕ) (count : ℕ) → cap_verdict cells count ≡ in_order (cap_checks cells count)
cap_verdict_lem cells count = sym (check_last (cap_verdict cells count))

pub cap_ordered : (cells : List ℕ) (count : ℕ) → Ordered number_of (Count ∷ []) (cap_checks cells count)
cap_ordered cells count = record { gives = (check_gives Count (not (whole_rows cell_width cells) || (ltb (cell_count cells) count || ltb 4096 count)), tt); rises = refl }
