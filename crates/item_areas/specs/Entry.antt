-- Document 01, "Areas of items", of all items of a job's records: what the entry answers and refuses (numbers 1 to 7 and 9).
use Rattle.std.specs.Prelude.{ℕ, ◌+◌, ◌/◌, ◌≡◌, ◌||◌, List, [], ◌∷◌, ◌++◌, length, replicate, ltb}
use Rattle.refusals.specs.declared.Refusal.{Refusal}
use Rattle.refusals.specs.declared.Refusal.TheVariants.{Count, Space, List as ListWord}
use Rattle.refusals.specs.Verdicts.{in_order, check, Verdict, Answer}
use Rattle.refusals.specs.Outcomes.{unless, after}
use Rattle.words.specs.Widths.{part_width, range_width}
use Rattle.insts.specs.Counts.{rows_verdict}
use Rattle.areas.specs.Job.{checks, item_count, item_area, items_verdict}
use Rattle.job_space.specs.declared.Sizes.{Sizes}
use Rattle.job_space.specs.Rows.{Rows}
use Rattle.job_space.specs.Space.{job_words, sizes_of, space_of}
use Rattle.job_checks.specs.Job.{job_of, count_verdict, checks_give}
use Rattle.item_lists.specs.Lists.{AnsweredBy}

-- number 7: work space under W, item list under the item count
abbrev pub space_verdict : Sizes → ℕ → ℕ → Verdict
space_verdict z items work = check Space (ltb work (space_of z) || ltb (items / part_width) (z.locals + z.slots))

-- numbers 1 to 7 in the entry's order, "lowest number wins", what is refused before anything is measured: an item list that is no whole rows is no count; the records; the space
abbrev pub lent_checks : Rows → ℕ → ℕ → ℕ → List Verdict
lent_checks R areas items work = rows_verdict part_width items items ∷ count_verdict R areas ∷ (checks (job_of R) ++ (space_verdict (sizes_of R areas) items work ∷ []))

unfoldable pub lent_verdict : Rows → ℕ → ℕ → ℕ → Verdict
lent_verdict R areas items work = in_order (lent_checks R areas items work)

-- all checks: 9 of what is found comes last; and the refusal that each gives
abbrev pub item_checks : Rows → ℕ → ℕ → ℕ → List Verdict
item_checks R areas items work = lent_checks R areas items work ++ (items_verdict (job_of R) (areas / range_width) ∷ [])

abbrev pub item_give : List Refusal
item_give = (Count ∷ Count ∷ (checks_give ++ (Space ∷ []))) ++ (ListWord ∷ [])

-- the areas of all items: the work space is unchanged after a refusal that comes before measuring, else its first W words are zero
pub record ItemAreas (R : Rows) (areas items work : List ℕ) (r : Answer) (areas' items' work' : List ℕ) : Type 0 where
  pub lists : AnsweredBy (in_order (item_checks R (length areas) (length items) (length work))) (item_count (job_of R)) (item_area (job_of R)) areas items r areas' items'
  pub in_work : work' ≡ after (unless (lent_verdict R (length areas) (length items) (length work)) (job_words R (length areas))) (λ n. replicate n 0) work
