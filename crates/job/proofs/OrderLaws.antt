-- Which refusals a job gives, in which order: 1 to 7, 9, 12 and 13, as one list of checks.
use Prim.Native.Nat.{ℕ, ◌+◌, ◌/◌}
use mathlib.Core.Path.{◌≡◌, refl, ap, sym, ◌∙◌}
use mathlib.Core.Bool.{◌||◌}
use mathlib.Core.List.{List, [], ◌∷◌, ◌++◌}
use lib.Dec.{ltb}
use Rattle.refusals.specs.declared.Refusal.{Refusal}
use Rattle.refusals.specs.declared.Refusal.TheVariants.{Count, Space, List as ListWord, Align, Depth}
use Rattle.refusals.specs.Verdicts.{number_of, first, in_order}
use Rattle.refusals.specs.Orders.{Giving, Ordered}
use Rattle.refusals.proofs.Orders.{check_gives, order_more, order_append, giving_append}
use Rattle.words.specs.Rows.{tabulate}
use Rattle.words.specs.Widths.{cell_width, item_width, range_width}
use Rattle.areas.specs.Job.{Job, checks, item_count, item_area, ranges_of, items_verdict}
use Rattle.job_space.specs.declared.Sizes.{Sizes}
use Rattle.job_space.specs.Space.{sizes_of, space_of, bad_shape}
use Rattle.job_checks.specs.Job.{job_of, checks_give}
use Rattle.job_checks.proofs.OrderLaws.{counts_give, checks_give_lem}
use Rattle.job.specs.Inner.{space_verdict}
use Rattle.job.specs.Entry.{lent_checks, lent_verdict, verdict_of, job_checks}
use Rattle.job_space.specs.Rows.{Rows}
use Rattle.fitting.specs.declared.Terms.{Terms}
use Rattle.fitting.specs.Queries.{Room}
use Rattle.fitting.specs.Layout.{rooms_in, layout_checks, layout_verdict}
use Rattle.fitting.proofs.LayoutLaws.{layout_gives}
use Rattle.soundness.specs.Demand.{job_plan}

module _ (R : Rows) (t : Terms) (cells items areas offsets work : ℕ) where
  abbrev J : Job
  J = job_of R

  abbrev z : Sizes
  z = sizes_of R areas

  -- what is refused before measuring, which refusal each check gives
  abbrev pub lent_give : List Refusal
  lent_give = Count ∷ Count ∷ (checks_give ++ (Space ∷ []))

  pub lent_give_lem : Giving lent_give (lent_checks R t cells items areas offsets work)
  lent_give_lem = (
    check_gives Count (bad_shape t cells items),
    (
      counts_give R areas,
      giving_append checks_give (Space ∷ []) (checks J) (space_verdict z cells items offsets work ∷ []) (checks_give_lem J)
          (check_gives Space (ltb work (space_of z) || (ltb (cells / cell_width) (z.locals + z.slots) || (ltb (items / item_width) (z.locals + z.slots) || ltb offsets (z.locals + z.slots)))), tt),
    ),
  )

  abbrev rooms : List Room
  rooms = rooms_in (job_plan J t.budget)

  pub job_verdict : verdict_of R t cells items areas offsets work ≡ in_order (job_checks R t cells items areas offsets work)
  unfolding lent_verdict layout_verdict
  job_verdict =
      sym (order_append (lent_checks R t cells items areas offsets work) (items_verdict J (areas / range_width) ∷ layout_checks rooms)
      ∙ ap (first (in_order (lent_checks R t cells items areas offsets work))) (sym (order_more (items_verdict J (areas / range_width)) (layout_checks rooms) refl)))

  pub job_ordered : Ordered number_of (lent_give ++ (ListWord ∷ Align ∷ Depth ∷ [])) (job_checks R t cells items areas offsets work)
  job_ordered = record {
    gives =
        giving_append lent_give (ListWord ∷ Align ∷ Depth ∷ []) (lent_checks R t cells items areas offsets work) (items_verdict J (areas / range_width) ∷ layout_checks rooms) lent_give_lem
        (check_gives ListWord (ltb (areas / range_width) (ranges_of (tabulate (item_count J) (item_area J)))), layout_gives rooms);
    rises = refl;
  }
