-- Which refusals the queries' checks give, in which order: 1, 7, 10.
use Prim.Native.Nat.{ℕ, ◌-◌}
use mathlib.Core.Path.{refl}
use mathlib.Core.Bool.{Bool, true, false, cond, ◌||◌}
use mathlib.Core.List.{List, [], ◌∷◌}
use lib.Dec.{ltb}
use Rattle.refusals.specs.declared.Refusal.TheVariants.{Count, Space, Want}
use Rattle.refusals.specs.Verdicts.{number_of, Bad, Fine}
use Rattle.refusals.specs.Orders.{Gives, Ordered}
use Rattle.refusals.proofs.Orders.{check_gives, scan_gives}
use Rattle.words.specs.Widths.{cell_count, item_row_count}
use Rattle.query_checks.specs.Checks.{bad_count, surplus, bad_areas, plan_checks, shared_checks, told_checks, crowded_checks}

surplus_gives : (cells items : List ℕ) → Gives Want (surplus cells items)
surplus_gives cells items = go (ltb (item_row_count items) (cell_count cells))
  where
    go : (t : Bool) → Gives Want (cond t (Bad Want (item_row_count items)) Fine)
    go true = refl
    go false = tt

module _ (cells items : List ℕ) (locals : ℕ) where
  pub plan_ordered : Ordered number_of (Count ∷ Want ∷ Want ∷ []) (plan_checks cells items locals)
  plan_ordered = record { gives = (check_gives Count (bad_count cells items locals), (scan_gives Want _ _, (surplus_gives cells items, tt))); rises = refl }

  pub shared_ordered : (areas : List ℕ) → Ordered number_of (Count ∷ Want ∷ Want ∷ []) (shared_checks cells items areas locals)
  shared_ordered areas = record { gives = (check_gives Count (bad_count cells items locals || bad_areas areas), (scan_gives Want _ _, (surplus_gives cells items, tt))); rises = refl }

  pub told_ordered : (areas : List ℕ) (room : ℕ) → Ordered number_of (Count ∷ Space ∷ Want ∷ Want ∷ []) (told_checks cells items areas locals room)
  told_ordered areas room = record { gives = (check_gives Count (bad_count cells items locals || bad_areas areas), (check_gives Space (ltb room 2), (scan_gives Want _ _, (surplus_gives cells items, tt)))); rises = refl }

  pub crowded_ordered : (room : ℕ) → Ordered number_of (Count ∷ Space ∷ Want ∷ Want ∷ []) (crowded_checks cells items locals room)
  crowded_ordered room = record { gives = (check_gives Count (bad_count cells items locals), (check_gives Space (ltb room (item_row_count items - locals)), (scan_gives Want _ _, (surplus_gives cells items, tt)))); rises = refl }
