-- The exported job and fitting alone: which refusals they give, in which order. Room for the counts is one more cause of 7, before 9 and 10; 12 and 13 come last.
use Prim.Native.Nat.{ℕ, ◌/◌}
use mathlib.Core.Path.{◌≡◌, refl, sym, ap, ◌∙◌}
use mathlib.Core.Bool.{Bool, ◌||◌}
use mathlib.Core.List.{List, [], ◌∷◌, ◌++◌}
use lib.Dec.{ltb}
use Rattle.refusals.specs.declared.Refusal.TheVariants.{Count, Space, Want, List as ListWord, Align, Depth}
use Rattle.refusals.specs.Verdicts.{number_of, first, in_order, check, Verdict}
use Rattle.refusals.specs.Orders.{Ordered}
use Rattle.refusals.proofs.Laws.{first_assoc}
use Rattle.refusals.proofs.Orders.{check_gives, scan_gives, order_more, order_append, giving_append}
use Rattle.words.specs.Rows.{tabulate}
use Rattle.words.specs.Widths.{range_width, want_count}
use Rattle.areas.specs.Job.{Job, item_count, item_area, ranges_of, items_verdict}
use Rattle.job_checks.specs.Job.{job_of}
use Rattle.job.specs.Entry.{lent_checks, lent_verdict}
use Rattle.job.proofs.OrderLaws.{lent_give, lent_give_lem}
use Rattle.want_checks.specs.Checks.{bad_count, bad_space, bad_want, wants_verdict}
use Rattle.ranges.specs.Forms.{areas_of}
use Rattle.want_codes.specs.Plans.{few_counts, coded_verdict as fitVerdict}
use Rattle.wants.specs.Entry.{plan_for}
use Rattle.soundness.specs.Demand.{job_plan}
use Rattle.fitting.specs.Queries.{Room}
use Rattle.fitting.specs.Layout.{rooms_in, layout_checks, layout_verdict, laid_verdict}
use Rattle.fitting.proofs.LayoutLaws.{layout_gives}
use Rattle.job_codes.specs.Job.{coded_verdict}
use Rattle.export_laws.specs.Orders.{coded_checks, fit_coded_checks}
use Rattle.job_space.specs.Rows.{Rows}
use Rattle.fitting.specs.declared.Terms.{Terms}

module _ (R : Rows) (t : Terms) (cells items areas offsets counts work : ℕ) where
  abbrev J : Job
  J = job_of R

  abbrev lent : List Verdict
  lent = lent_checks R t cells items areas offsets work

  abbrev rooms : List Room
  rooms = rooms_in (job_plan J t.budget)

  abbrev rest : List Verdict
  rest = check Space (few_counts counts) ∷ items_verdict J (areas / range_width) ∷ layout_checks rooms

  pub export_job_verdict : coded_verdict R t cells items areas offsets counts work ≡ in_order (coded_checks R t cells items areas offsets counts work)
  unfolding lent_verdict layout_verdict
  export_job_verdict =
      first_assoc _ (check Space (few_counts counts)) (first (items_verdict J (areas / range_width)) (in_order (layout_checks rooms)))
      ∙ ap (first (in_order lent)) (order_more (check Space (few_counts counts)) (items_verdict J (areas / range_width) ∷ layout_checks rooms) (order_more (items_verdict J (areas / range_width)) (layout_checks rooms) refl))
      ∙ sym (order_append lent rest)

  pub export_job_ordered : Ordered number_of (lent_give R t cells items areas offsets work ++ (Space ∷ ListWord ∷ Align ∷ Depth ∷ [])) (coded_checks R t cells items areas offsets counts work)
  export_job_ordered = record {
    gives =
        giving_append (lent_give R t cells items areas offsets work) (Space ∷ ListWord ∷ Align ∷ Depth ∷ []) lent rest (lent_give_lem R t cells items areas offsets work)
        (check_gives Space (few_counts counts), (check_gives ListWord (ltb (areas / range_width) (ranges_of (tabulate (item_count J) (item_area J)))), layout_gives rooms));
    rises = refl;
  }

module _ (wants areas : List ℕ) (locals budget cells items offsets counts work : ℕ) where
  abbrev short : Bool
  short = bad_space wants areas cells items offsets work || few_counts counts

  abbrev fit_rooms : List Room
  fit_rooms = rooms_in (plan_for wants areas budget)

  pub export_fit_verdict : laid_verdict (fitVerdict wants areas locals budget cells items offsets counts work) (plan_for wants areas budget) ≡ in_order (fit_coded_checks wants areas locals budget cells items offsets counts work)
  unfolding layout_verdict
  export_fit_verdict = sym (order_append (check Count (bad_count wants areas locals budget cells items) ∷ check Space short ∷ wants_verdict areas wants ∷ []) (layout_checks fit_rooms))

  pub export_fit_ordered : Ordered number_of (Count ∷ Space ∷ Want ∷ Align ∷ Depth ∷ []) (fit_coded_checks wants areas locals budget cells items offsets counts work)
  export_fit_ordered = record {
    gives = (
      check_gives Count (bad_count wants areas locals budget cells items),
      (check_gives Space short, (scan_gives Want (bad_want (areas_of areas) wants) (want_count wants), layout_gives fit_rooms)),
    );
    rises = refl;
  }
