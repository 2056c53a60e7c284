-- The whole job as it is exported: the outcome and the lists of `job::share`, the answer in one number.
use Rattle.std.specs.Prelude.{ℕ, ◌/◌, ◌≡◌, List, ℤ, length, replicate}
use Rattle.refusals.specs.declared.Refusal.TheVariants.{Space}
use Rattle.refusals.specs.Verdicts.{first, check, Verdict}
use Rattle.refusals.specs.Outcomes.{Outcome, unless, after}
use Rattle.areas.specs.Job.{item_count, item_area}
use Rattle.fitting.specs.Plan.{Plan}
use Rattle.wants.specs.Entry.{tally_of, cell_rows, cell_offsets}
use Rattle.area_tables.specs.Tables.{area_rows}
use Rattle.job_space.specs.Space.{space_of, sizes_of}
use Rattle.soundness.specs.Demand.{job_plan}
use Rattle.job_answers.specs.Answers.{item_rows, answer_verdict}
use Rattle.job.specs.Entry.{lent_verdict}
use Rattle.codes.specs.Codes.{code_of}
use Rattle.want_codes.specs.Plans.{counts_of, few_counts}
use Rattle.job_space.specs.Rows.{Rows}
use Rattle.fitting.specs.declared.Terms.{Terms}
use Rattle.job_checks.specs.Job.{job_of}
use Rattle.words.specs.Widths.{range_width}

-- the item list and the area list of a plan
abbrev pub items_told : Rows → Plan → List ℕ
items_told R = item_rows (item_count (job_of R)) (item_area (job_of R))

abbrev pub areas_told : Rows → Plan → List ℕ
areas_told R _ = area_rows (item_count (job_of R)) (item_area (job_of R))

-- what a call is lent: the rows, and what fitting has to keep to
module _ (R : Rows) (t : Terms) where
  -- the answer lists, the counts and the work space, by their lengths
  module _ (cells items areas offsets counts work : ℕ) where
    -- numbers 1 to 7; `counts` is an answer list of three numbers
    abbrev pub measured_verdict : Verdict
    measured_verdict = first (lent_verdict R t cells items areas offsets work) (check Space (few_counts counts))

    -- all refusals, lowest number first: 9, 12 and 13 come after every cause of 7
    abbrev pub coded_verdict : Verdict
    coded_verdict = first measured_verdict (answer_verdict (item_count (job_of R)) (item_area (job_of R)) (areas / range_width) (job_plan (job_of R) t.budget))

    -- the job's plan, unless refused
    abbrev pub job_outcome : Outcome Plan
    job_outcome = unless coded_verdict (job_plan (job_of R) t.budget)

    -- W, unless refused before anything is measured
    abbrev pub work_outcome : Outcome ℕ
    work_outcome = unless measured_verdict (space_of (sizes_of R areas))

  -- the whole job: the answer in one number, and each list that was lent
  pub record JobCoded (cells items areas : List ℕ) (offsets : List ℤ) (counts work : List ℕ) (r : ℕ) (cells' items' areas' : List ℕ) (offsets' : List ℤ) (counts' work' : List ℕ) : Type 0 where
    pub answer : r ≡ code_of (tally_of (job_outcome (length cells) (length items) (length areas) (length offsets) (length counts) (length work)))
    pub in_cells : cells' ≡ after (job_outcome (length cells) (length items) (length areas) (length offsets) (length counts) (length work)) cell_rows cells
    pub in_items : items' ≡ after (job_outcome (length cells) (length items) (length areas) (length offsets) (length counts) (length work)) (items_told R) items
    pub in_areas : areas' ≡ after (job_outcome (length cells) (length items) (length areas) (length offsets) (length counts) (length work)) (areas_told R) areas
    pub in_offsets : offsets' ≡ after (job_outcome (length cells) (length items) (length areas) (length offsets) (length counts) (length work)) cell_offsets offsets
    pub in_counts : counts' ≡ after (tally_of (job_outcome (length cells) (length items) (length areas) (length offsets) (length counts) (length work))) counts_of counts
    pub in_work : work' ≡ after (work_outcome (length cells) (length items) (length areas) (length offsets) (length counts) (length work)) (λ n. replicate n 0) work
