-- Document 01, the whole job: what the entry answers and refuses (numbers 1 to 7, 9, and document 02's 12 and 13), and what it leaves in the lists that it was lent.
use Rattle.std.specs.Prelude.{ℕ, ◌+◌, ◌/◌, ◌≡◌, ◌||◌, List, [], ◌∷◌, ◌++◌, ℤ, length, replicate, ltb, Result}
use Rattle.refusals.specs.declared.Refusal.TheVariants.{Count, Space}
use Rattle.refusals.specs.Verdicts.{first, in_order, check, Verdict}
use Rattle.refusals.specs.Outcomes.{unless, after}
use Rattle.areas.specs.Job.{checks, item_count, item_area, areas_verdict}
use Rattle.fitting.specs.declared.Terms.{Terms}
use Rattle.fitting.specs.Layout.{rooms_in, layout_checks}
use Rattle.job_space.specs.Rows.{Rows}
use Rattle.job_space.specs.Space.{job_words, bad_shape}
use Rattle.job_checks.specs.Job.{job_of, count_verdict}
use Rattle.soundness.specs.Demand.{job_plan}
use Rattle.job_answers.specs.Answers.{answer_verdict, AnsweredBy}
use Rattle.words.specs.Rows.{row_count}
use Rattle.words.specs.Widths.{local_width, cell_width, item_width, range_width}
use Rattle.refusals.specs.declared.Refused.{Refused}
use Rattle.wants.specs.declared.Tally.{Tally}

-- number 7: work space under W; cell, item or offset list under the item count
abbrev pub short_verdict : ℕ → ℕ → ℕ → ℕ → ℕ → ℕ → Verdict
short_verdict words count cells items offsets work =
    check Space (ltb work words || (ltb (cells / cell_width) count || (ltb (items / item_width) count || ltb offsets count)))

-- what a call is lent: the rows, what fitting has to keep to, and the answer lists and the work space by their lengths
module _ (R : Rows) (t : Terms) (cells items areas offsets work : ℕ) where
  -- numbers 1 to 7 in the entry's order, what is refused before anything is measured: 1 of what only fitting takes, 1 of the records, their checks, 7
  abbrev pub lent_checks : List Verdict
  lent_checks =
      check Count (bad_shape t cells items) ∷ count_verdict R areas
      ∷ (checks (job_of R) ++ (short_verdict (job_words R areas) (row_count local_width R.locals + length R.slots) cells items offsets work ∷ []))

  unfoldable pub lent_verdict : Verdict
  lent_verdict = in_order lent_checks

  -- all refusals, lowest number first: 9 once the areas are measured, 12 and 13 once the plan is made
  abbrev pub verdict_of : Verdict
  verdict_of = first lent_verdict (answer_verdict (item_count (job_of R)) (item_area (job_of R)) (areas / range_width) (job_plan (job_of R) t.budget))

  -- the same as one list of checks
  abbrev pub job_checks : List Verdict
  job_checks = lent_checks ++ (areas_verdict (item_count (job_of R)) (item_area (job_of R)) (areas / range_width) ∷ layout_checks (rooms_in (job_plan (job_of R) t.budget)))

-- the whole job: the plan of all items' areas, unless refused; the work space is unchanged after a refusal that comes before measuring, else its first W words are zero
pub record SharedAs (R : Rows) (t : Terms) (cells items areas : List ℕ) (offsets : List ℤ) (work : List ℕ) (r : Result Tally Refused)
    (cells' items' areas' : List ℕ) (offsets' : List ℤ) (work' : List ℕ) : Type 0 where
  pub lists : AnsweredBy (verdict_of R t (length cells) (length items) (length areas) (length offsets) (length work)) (item_count (job_of R)) (item_area (job_of R)) (job_plan (job_of R) t.budget)
      cells items areas offsets r cells' items' areas' offsets'
  pub in_work : work' ≡ after (unless (lent_verdict R t (length cells) (length items) (length areas) (length offsets) (length work)) (job_words R (length areas))) (λ n. replicate n 0) work
