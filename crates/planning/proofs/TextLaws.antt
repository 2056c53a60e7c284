-- From a text to what the program prints for it: how long that is, and where it stands.
use Rattle.std.specs.Prelude.{Err}
use Prim.Native.Nat.{ℕ, ◌≤◌}
use native.Mathlib.Omega.{arith}
use mathlib.Core.Path.{◌≡◌, refl, ◌∙◌}
use mathlib.Core.List.{List, [], ◌∷◌}
use lib.ListN.{length}
use lib.Dec.{lit<, lit≤}
use Rattle.refusals.specs.Verdicts.{number_of, first, Fine, Verdict, Answer}
use Rattle.refusals.specs.Outcomes.{given, unless, answered}
use Rattle.refusals.proofs.Laws.{first_left, first_right}
use Rattle.words.proofs.RowLaws.{length_records}
use Rattle.areas.specs.Job.{Job, item_count, item_area}
use Rattle.soundness.specs.Demand.{job_plan}
use Rattle.text_grammar.specs.Groups.{group_count, row_numbers, local_group, slot_group}
use Rattle.text_grammar.specs.Lines.{lines_of}
use Rattle.text_grammar.specs.Text.{read_verdict}
use Rattle.text_grammar.proofs.RowLaws.{length_rows}
use Rattle.text_lines.specs.Read.{TextRead}
use Rattle.text_lines.proofs.EndLaws.{accepted_few}
use Rattle.text_lines.proofs.WholeLaws.{read_finished}
use Rattle.text_plan.proofs.LineLaws.{line_length}
use Rattle.planning.specs.Groups.{terms_for, job, lent_for}
use Rattle.planning.specs.Program.{told, job_text, refusal, printed_for, numbers_in, program_text, cell_numbers, item_numbers, area_numbers, offset_numbers, work_words}
use Rattle.planning.specs.Inner.{Read, Tells, Answers}
use Rattle.planning.specs.Answer.{room_for}
use Rattle.planning.proofs.PrintLaws.{Printable, text_short}
use Rattle.planning.proofs.JobLaws.{list_fine, job_printable}
use Rattle.planning.proofs.AnswerLaws.{make_local, room_given, stands_of}
use Rattle.words.specs.Widths.{local_width}

-- ---- a text that is accepted and whose job is not refused

module _ (text : List ℕ) (e : first (read_verdict text) (refusal (numbers_in text)) ≡ Fine) where
  abbrev J : Job
  J = job (numbers_in text)

  local_few : length J.locals ≤ 64
  local_few =
      let a = accepted_few text (first_left (read_verdict text) (refusal (numbers_in text)) e) local_group (lit< tt) in
      let b = length_rows local_group (lit< tt) (lines_of text) in
      let c = length_records local_width make_local (numbers_in text local_group) in
      omega arith

  slot_few : length J.slots ≤ 64
  slot_few =
      let a = accepted_few text (first_left (read_verdict text) (refusal (numbers_in text)) e) slot_group (lit< tt) in
      let b = length_rows slot_group (lit< tt) (lines_of text) in
      omega arith

  pub text_printable : Printable (item_count J) (length J.locals) (item_area J) (job_plan J (terms_for (numbers_in text)).budget)
  text_printable =
      job_printable J (terms_for (numbers_in text)).budget local_few slot_few
      (list_fine J (job_plan J (terms_for (numbers_in text)).budget) (lent_for (numbers_in text) cell_numbers item_numbers area_numbers offset_numbers work_words)
      (first_right (read_verdict text) (refusal (numbers_in text)) e))

  plan_short : length (job_text J (terms_for (numbers_in text)).budget) ≤ room_for
  unfolding job_text
  plan_short = text_short text_printable

-- ---- no text that the program prints is longer than its list

pub program_short : (text : List ℕ) → length (program_text text) ≤ room_for
unfolding printed_for
program_short text = go (first (read_verdict text) (refusal (numbers_in text))) (plan_short text)
  where
    go : (v : Verdict) → (v ≡ Fine → length (job_text (job (numbers_in text)) (terms_for (numbers_in text)).budget) ≤ room_for) → length (told (unless v (job_text (job (numbers_in text)) (terms_for (numbers_in text)).budget))) ≤ room_for
    go Fine h = h refl
    go (Err e) h = let l = line_length 78 (number_of e.0 ∷ e.1 ∷ []) (lit≤ tt) in omega arith

-- ---- for the program, and for a text that is lent

pub told_stands : {v : Verdict} {rows counts out : List ℕ} {w : Answer} {out' : List ℕ} {n : ℕ} → room_for ≤ length out → Tells v rows counts out w out' → ((m : ℕ) → answered w ≡ given m → n ≡ m) → Answers v rows counts out n out'
told_stands {out = out} h t f = λ text F. stands_of (program_text text) (room_given (program_text text) (length out) (let s = program_short text in omega arith)) (t text F) f

pub text_read : {text rows counts : List ℕ} {v : Verdict} {rows' counts' : List ℕ} → length rows ≡ row_numbers → length counts ≡ group_count → length rows' ≡ length rows → length counts' ≡ length counts
    → TextRead text rows counts v rows' counts' → Read v rows' counts'
text_read {text} rl cl re ce T = record { text = text; finished = read_finished (omega arith) (omega arith) T; rows_length = re ∙ rl; counts_length = ce ∙ cl }
