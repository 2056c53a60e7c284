-- Document 01, "lowest number wins", of the exported job and fitting alone: their checks in their order.
use Rattle.std.specs.Prelude.{ℕ, ◌/◌, ◌||◌, List, ◌∷◌, ◌++◌}
use Rattle.refusals.specs.declared.Refusal.TheVariants.{Count, Space}
use Rattle.refusals.specs.Verdicts.{check, Verdict}
use Rattle.areas.specs.Job.{items_verdict}
use Rattle.fitting.specs.declared.Terms.{Terms}
use Rattle.fitting.specs.Layout.{rooms_in, layout_checks}
use Rattle.want_checks.specs.Checks.{bad_count, bad_space, wants_verdict}
use Rattle.wants.specs.Entry.{plan_for}
use Rattle.soundness.specs.Demand.{job_plan}
use Rattle.job_space.specs.Rows.{Rows}
use Rattle.job_checks.specs.Job.{job_of}
use Rattle.job.specs.Entry.{lent_checks}
use Rattle.want_codes.specs.Plans.{few_counts}
use Rattle.words.specs.Widths.{range_width}

-- numbers 1 to 7 of what the entry is lent, then 7 of the counts, 9, 12 and 13
abbrev pub coded_checks : Rows → Terms → ℕ → ℕ → ℕ → ℕ → ℕ → ℕ → List Verdict
coded_checks R t cells items areas offsets counts work =
    lent_checks R t cells items areas offsets work
    ++ (check Space (few_counts counts) ∷ items_verdict (job_of R) (areas / range_width) ∷ layout_checks (rooms_in (job_plan (job_of R) t.budget)))

-- numbers 1, 7 and 10 of fitting alone, 7 of the counts too, then 12 and 13
abbrev pub fit_coded_checks : List ℕ → List ℕ → ℕ → ℕ → ℕ → ℕ → ℕ → ℕ → ℕ → List Verdict
fit_coded_checks wants areas locals budget cells items offsets counts work =
    check Count (bad_count wants areas locals budget cells items) ∷ check Space (bad_space wants areas cells items offsets work || few_counts counts)
    ∷ wants_verdict areas wants ∷ layout_checks (rooms_in (plan_for wants areas budget))
