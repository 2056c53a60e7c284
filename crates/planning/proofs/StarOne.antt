-- ★1 from its text to the printed text: each part's own ★1, put together.
use Prim.Native.Nat.{ℕ}
use mathlib.Core.Path.{◌≡◌, refl, sym, ap, ◌∙◌}
use mathlib.Core.Option.{Option, some, some-injective}
use mathlib.Core.List.{List, [], ◌∷◌, map}
use lib.ListN.{get_or}
use Rattle.refusals.specs.Verdicts.{first, in_order, scan, Fine, Verdict}
use Rattle.refusals.specs.Outcomes.{unless}
use Rattle.refusals.proofs.Laws.{first_fine}
use Rattle.words.specs.Rows.{tabulate, flat}
use Rattle.ranges.specs.declared.Range.{Range}
use Rattle.ranges.specs.Points.{range}
use Rattle.graph.specs.Work.{sum_of}
use Rattle.carrying.specs.Lists.{gather}
use Rattle.insts.specs.Counts.{inst_counts, code_counts}
use Rattle.areas.specs.Job.{Job, checks, item_area, ranges_of, items_verdict}
use Rattle.fitting.specs.Plan.{Plan, Cell}
use Rattle.fitting.specs.Queries.{room_in}
use Rattle.fitting.specs.Layout.{rooms_in, round_up, depth_before, among_powers, layout_verdict}
use Rattle.wants.specs.Entry.{cell_rows}
use Rattle.area_tables.specs.Tables.{area_rows}
use Rattle.carry_checks.specs.Checks.{carry_counts}
use Rattle.job_checks.specs.Job.{other_counts, count_verdict}
use Rattle.job_checks.proofs.CheckLaws.{placed_of, placed_checks}
use Rattle.soundness.specs.Demand.{job_plan}
use Rattle.soundness.proofs.StarOne.{star_1_job, star_1_checked, star_1_areas, star_1 as star-1-plan}
use Rattle.job_answers.specs.Answers.{item_rows}
use Rattle.job_space.specs.Space.{sizes_of}
use Rattle.job.proofs.CheckLaws.{by_space}
use Rattle.planning.specs.Groups.{rows_for, terms_for, job, lent_for}
use Rattle.text_grammar.proofs.Stars.{star, star_1 as star-1-read}
use Rattle.text_plan.proofs.Stars.{star as starText, star_1 as star-1-printed}
use Rattle.planning.proofs.PrintLaws.{printed_same}
use Rattle.planning.specs.Program.{told, job_text, refusal, printed_for, numbers_in, program_text}
use Rattle.planning.specs.Program.{cell_numbers, item_numbers, area_numbers, offset_numbers, work_words}
use Rattle.planning.proofs.GroupLaws.{same_printed}

abbrev head : List ℕ
head = 20 ∷ 0 ∷ 1048576 ∷ []

abbrev blocks : List ℕ
blocks = 0 ∷ 0 ∷ 19 ∷ []

abbrev insts : List ℕ
insts = 1 ∷ 0 ∷ 2 ∷ 3 ∷ 0 ∷ 0 ∷ 256 ∷ 256 ∷ 0 ∷ 1 ∷ 0 ∷ 6 ∷ 7 ∷ 0 ∷ 0 ∷ 256 ∷ 256 ∷ 0 ∷ []

abbrev locals : List ℕ
locals = 8 ∷ 8 ∷ 4 ∷ 4 ∷ []

abbrev addresses : List ℕ
addresses = 0 ∷ 0 ∷ 1 ∷ 1 ∷ []

abbrev rows_of : ℕ → List ℕ
rows_of k = get_or (head ∷ blocks ∷ [] ∷ insts ∷ [] ∷ [] ∷ locals ∷ [] ∷ addresses ∷ []) k []

-- ---- the records

read : program_text star ≡ printed_for rows_of Fine
unfolding flat
read =
    ap (printed_for (numbers_in star)) star-1-read.fine
    ∙ same_printed (numbers_in star) rows_of Fine (ap flat star-1-read.head) (ap flat star-1-read.blocks) (ap flat star-1-read.edges) (ap flat star-1-read.insts)
    (ap flat star-1-read.operands) (ap flat star-1-read.crossings) (ap flat star-1-read.locals) (ap flat star-1-read.slots) (ap flat star-1-read.addresses)
    (ap flat star-1-read.ends) (ap flat star-1-read.pieces) (ap flat star-1-read.assigned) (ap flat star-1-read.moves)

-- they are those of the job's own ★1
same_job : job rows_of ≡ star_1_job
unfolding tabulate
same_job = refl

-- ---- nothing is refused

counted : count_verdict (rows_for rows_of) area_numbers ≡ Fine
unfolding count_verdict carry_counts other_counts inst_counts code_counts first sum_of
counted = refl

placed : placed_of (rows_for rows_of) ≡ Fine
placed = placed_checks (rows_for rows_of) ∙ ap (λ (J : Job). in_order (checks J)) same_job ∙ star_1_checked

lent : lent_for rows_of cell_numbers item_numbers area_numbers offset_numbers work_words ≡ Fine
lent = sym (by_space (rows_for rows_of) (terms_for rows_of) cell_numbers item_numbers area_numbers offset_numbers work_words (sizes_of (rows_for rows_of) area_numbers) refl counted placed refl refl)

-- two items with the areas a and b, both in cell 0
module _ (A : ℕ → Option (List Range)) (p : Plan) (one : A 0 ≡ some (range 2 3 ∷ [])) (two : A 1 ≡ some (range 6 7 ∷ [])) where
  ranges : ranges_of (tabulate 2 A) ≡ 2
  unfolding ranges_of tabulate
  ranges = rw (one, two) refl

  rows : p.cell 0 ≡ 0 → p.cell 1 ≡ 0 → item_rows 2 A p ≡ 0 ∷ 1 ∷ 0 ∷ 1 ∷ 0 ∷ 1 ∷ 1 ∷ 1 ∷ []
  unfolding ranges_of tabulate flat
  rows e f = simp (e, f, one, two)

  area_rows_lem : area_rows 2 A ≡ 2 ∷ 3 ∷ 6 ∷ 7 ∷ []
  unfolding gather tabulate flat
  area_rows_lem = rw (one, two) refl

listed : items_verdict star_1_job 64 ≡ Fine
unfolding tabulate
listed = rw (ranges (item_area star_1_job) (job_plan star_1_job 1048576) star_1_areas.0 star_1_areas.1) refl

-- one cell 8/8: its alignment is a power of two, and it is not too deep
laid : layout_verdict (rooms_in (job_plan star_1_job 1048576)) ≡ Fine
unfolding layout_verdict in_order first scan among_powers depth_before round_up
laid = ap (λ (cs : List Cell). layout_verdict (map room_in cs)) star-1-plan.cells ∙ refl

none_refused : refusal rows_of ≡ Fine
none_refused =
    first_fine _ _ lent ∙ ap (λ (J : Job). first (items_verdict J 64) (layout_verdict (rooms_in (job_plan J 1048576)))) same_job
    ∙ first_fine (items_verdict star_1_job 64) _ listed ∙ laid

-- ---- its plan

cells : cell_rows (job_plan star_1_job 1048576) ≡ 8 ∷ 8 ∷ []
unfolding flat
cells = rw star-1-plan.cells refl

first_cell : (job_plan star_1_job 1048576).cell 0 ≡ 0
unfolding tabulate
first_cell = some-injective _ _ star-1-plan.locals.0

second_cell : (job_plan star_1_job 1048576).cell 1 ≡ 0
unfolding tabulate
second_cell = some-injective _ _ star-1-plan.locals.1

planned : job_text star_1_job 1048576 ≡ starText
unfolding job_text tabulate
planned =
    printed_same {l = 2} {l' = 2} cells (rows (item_area star_1_job) (job_plan star_1_job 1048576) star_1_areas.0 star_1_areas.1 first_cell second_cell)
    (area_rows_lem (item_area star_1_job) (job_plan star_1_job 1048576) star_1_areas.0 star_1_areas.1) refl star-1-plan.counts.1 star-1-plan.counts.2
    ∙ star-1-printed

accepted : printed_for rows_of Fine ≡ starText
unfolding printed_for first
accepted = ap (λ (v : Verdict). told (unless v (job_text (job rows_of) 1048576))) none_refused ∙ ap (λ (J : Job). job_text J 1048576) same_job ∙ planned

pub star_1 : program_text star ≡ starText
star_1 = read ∙ accepted
