-- The entry's checks in their order: which refusal each gives, and the two verdicts that the code makes.
use Prim.Native.Nat.{ℕ, ◌+◌, ◌/◌}
use mathlib.Core.Path.{◌≡◌, refl, ap, ◌∙◌}
use mathlib.Core.Bool.{◌||◌}
use mathlib.Core.List.{[], ◌∷◌, ◌++◌}
use lib.Dec.{ltb}
use Rattle.refusals.specs.declared.Refusal.TheVariants.{Count, Space, List as ListWord}
use Rattle.refusals.specs.Verdicts.{number_of, first, in_order, Verdict}
use Rattle.refusals.specs.Orders.{Ordered}
use Rattle.refusals.proofs.Laws.{check_last}
use Rattle.refusals.proofs.Orders.{check_gives, giving_append, order_append}
use Rattle.words.specs.Rows.{tabulate}
use Rattle.words.specs.Widths.{part_width, range_width}
use Rattle.insts.specs.Inner.{bad_rows}
use Rattle.areas.specs.Job.{item_count, item_area, ranges_of, items_verdict, checks}
use Rattle.job_space.specs.Space.{sizes_of, space_of}
use Rattle.job_checks.specs.Job.{job_of, checks_give}
use Rattle.job_checks.proofs.OrderLaws.{counts_give, checks_give_lem}
use Rattle.item_areas.specs.Entry.{space_verdict, lent_checks, lent_verdict, item_checks, item_give}
use Rattle.job_space.specs.Rows.{Rows}

module _ (R : Rows) (areas items work : ℕ) where
  abbrev list : Verdict
  list = items_verdict (job_of R) (areas / range_width)

  -- what is refused before measuring, then number 9
  pub item_verdict : in_order (item_checks R areas items work) ≡ first (lent_verdict R areas items work) list
  unfolding lent_verdict in_order
  item_verdict = order_append (lent_checks R areas items work) (list ∷ []) ∙ ap (first (in_order (lent_checks R areas items work))) (check_last list)

  pub item_ordered : Ordered number_of item_give (item_checks R areas items work)
  item_ordered = record {
    gives =
        giving_append (Count ∷ Count ∷ (checks_give ++ (Space ∷ []))) (ListWord ∷ []) (lent_checks R areas items work) (list ∷ []) (
          check_gives Count (bad_rows part_width items items),
          (
            counts_give R areas,
            giving_append checks_give (Space ∷ []) (checks (job_of R)) (space_verdict (sizes_of R areas) items work ∷ []) (checks_give_lem (job_of R))
                (check_gives Space (ltb work (space_of (sizes_of R areas)) || ltb (items / part_width) ((sizes_of R areas).locals + (sizes_of R areas).slots)), tt),
          ),
        )
        (check_gives ListWord (ltb (areas / range_width) (ranges_of (tabulate (item_count (job_of R)) (item_area (job_of R))))), tt);
    rises = refl;
  }
