-- Document 01, "Job text": what the planning program prints for a text.
use Rattle.std.specs.Prelude.{ℕ, List, length}
use Rattle.std.proofs.Math.Option.{Option}
use Rattle.refusals.specs.Verdicts.{first, Verdict}
use Rattle.refusals.specs.Outcomes.{Outcome, given, refused, unless}
use Rattle.words.specs.Rows.{flat}
use Rattle.ranges.specs.declared.Range.{Range}
use Rattle.areas.specs.Job.{Job, item_count, item_area}
use Rattle.fitting.specs.Plan.{Plan}
use Rattle.fitting.specs.Layout.{rooms_in, depth_of}
use Rattle.wants.specs.Entry.{cell_rows}
use Rattle.area_tables.specs.Tables.{area_rows}
use Rattle.soundness.specs.Demand.{job_plan}
use Rattle.job_answers.specs.Answers.{item_rows}
use Rattle.text_grammar.specs.Lines.{lines_of}
use Rattle.text_grammar.specs.Text.{rows_in, read_verdict}
use Rattle.planning.specs.Groups.{terms_for, job, verdict_for}
use Rattle.text_plan.specs.Printed.{printed, refusal_text}

-- "its area list has 64 ranges"; cells, items and offsets have room for 64 locals and 64 slots, and the work space is over W of 64 records of each group
abbrev pub cell_numbers : ℕ
cell_numbers = 256

abbrev pub item_numbers : ℕ
item_numbers = 512

abbrev pub area_numbers : ℕ
area_numbers = 128

abbrev pub offset_numbers : ℕ
offset_numbers = 128

abbrev pub work_words : ℕ
work_words = 8192

-- "a refusal prints only `N,number,index`"
abbrev pub told : Outcome (List ℕ) → List ℕ
told (given text) = text
told (refused number index) = refusal_text number index

-- the text of a plan of n items with the areas A, `locals` of them locals
abbrev pub text_of : ℕ → (ℕ → Option (List Range)) → ℕ → Plan → List ℕ
text_of n A locals p = printed (cell_rows p) (item_rows n A p) (area_rows n A) locals p.probes (depth_of (rooms_in p))

-- the text of the plan that a job gets
unfoldable pub job_text : Job → ℕ → List ℕ
job_text J budget = text_of (item_count J) (item_area J) (length J.locals) (job_plan J budget)

-- the numbers of the records of each group
module _ (group : ℕ → List ℕ) where
  -- what the job is refused for
  abbrev pub refusal : Verdict
  refusal = verdict_for group cell_numbers item_numbers area_numbers offset_numbers work_words

  -- the reader's refusals come before the job's
  unfoldable pub printed_for : Verdict → List ℕ
  printed_for v = told (unless (first v refusal) (job_text (job group) (terms_for group).budget))

-- the numbers of a group's records in a text
abbrev pub numbers_in : List ℕ → ℕ → List ℕ
numbers_in text k = flat (rows_in k (lines_of text))

-- what the program prints: 11 comes first, then 1 for more than 64 of a group, then the job's refusals, else the plan
abbrev pub program_text : List ℕ → List ℕ
program_text text = printed_for (numbers_in text) (read_verdict text)
