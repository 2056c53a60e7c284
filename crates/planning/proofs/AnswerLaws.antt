-- From what each function leaves to what the program prints.
use Rattle.std.specs.Result.{result_unwrap_or}
use Rattle.std.specs.Prelude.{Err, Ok, Result}
use Prim.Native.Nat.{ℕ, ◌+◌, ◌-◌, ◌*◌, ◌/◌, ◌≤◌, ◌<◌}
use native.Mathlib.Omega.{arith}
use mathlib.Core.Path.{◌≡◌, refl, ap, sym, subst, ◌∙◌}
use mathlib.Core.Bool.{false}
use mathlib.Core.List.{List, ◌++◌}
use lib.IntN.{ℤ}
use lib.ListN.{length, get_or, take, drop, length-append}
use lib.Seq.{take-append_seam}
use lib.Dec.{lit<}
use borrow.Author.Tests.{le-ltb}
use Rattle.refusals.specs.declared.Refusal.{Refusal}
use Rattle.refusals.specs.Verdicts.{number_of, first, Bad, Fine, Verdict, Answer}
use Rattle.refusals.specs.Outcomes.{Outcome, given, refused, unless, after, answered}
use Rattle.refusals.proofs.Laws.{first_left}
use Rattle.refusals.proofs.Numbers.{numbered_same}
use Rattle.words.specs.Inner.{part}
use Rattle.words.specs.Widths.{local_width, cell_width, item_width}
use Rattle.words.proofs.RowLaws.{length_records}
use Rattle.words.proofs.RegionLaws.{length_part}
use Rattle.areas.specs.Job.{Job, Local, item_count, item_area}
use Rattle.fitting.specs.Plan.{Plan}
use Rattle.query_checks.specs.Checks.{shared_verdict}
use Rattle.wants.specs.Entry.{tallied, tally_of, cell_rows}
use Rattle.area_tables.specs.Tables.{area_rows}
use Rattle.soundness.specs.Demand.{job_plan}
use Rattle.job_answers.specs.Answers.{item_rows}
use Rattle.text_grammar.specs.Groups.{group_at, base_at, group_count, row_numbers, head_group, local_group, slot_group}
use Rattle.text_grammar.specs.Lines.{lines_of}
use Rattle.text_grammar.specs.Text.{lines_verdict, read_verdict}
use Rattle.text_grammar.proofs.TableLaws.{room_most}
use Rattle.text_lines.specs.declared.job_rows.Reader.{Reader}
use Rattle.text_lines.specs.Inner.{Ready, Records, Finishes, Finished}
use Rattle.text_lines.proofs.EndLaws.{head_counted, accepted_few}
use Rattle.text_lines.proofs.WholeLaws.{text_fine}
use Rattle.text_plan.specs.Printed.{printed, refusal_text, in_room, PrintedTo, plan_text}
use Rattle.text_plan.proofs.PlanLaws.{room_told, plan_in_room}
use Rattle.planning.specs.Groups.{terms_for, job, lent_for, verdict_for, SharedFor}
use Rattle.planning.specs.Inner.{numbers_at, Few, Read, Stands, Answers}
use Rattle.planning.specs.Program.{told, job_text, refusal, printed_for, numbers_in, program_text, cell_numbers, item_numbers, area_numbers, offset_numbers, work_words}
use Rattle.wants.proofs.TallyLaws.{not_refused}
use Rattle.wants.proofs.ListLaws.{cells_long}
use Rattle.wants.proofs.SeenLaws.{told_tally}
use Rattle.job_answers.proofs.SeenLaws.{items_long}
use Rattle.planning.proofs.GroupLaws.{same_printed}
use Rattle.planning.proofs.PrintLaws.{Printable, plan_fine, text_before, printed_same}
use Rattle.planning.proofs.JobLaws.{list_fine, job_printable}
use Rattle.refusals.specs.declared.Refused.{Refused}
use Rattle.wants.specs.declared.Tally.{Tally}

-- ---- a text that was written

pub stands_of : {o : Outcome (List ℕ)} {out : List ℕ} {w : Answer} {out' : List ℕ} {n : ℕ} (text : List ℕ) → o ≡ given text → PrintedTo o out w out'
    → ((m : ℕ) → answered w ≡ given m → n ≡ m) → Stands text out n out'
stands_of {o} {out} {w} {out'} {n} text e p f =
    let q = subst (λ (x : Outcome (List ℕ)). PrintedTo x out w out') e p in
    record { count = f (length text) q.answer; in_out = q.in_out }

abbrev number_in : Outcome ℕ → ℕ
number_in (given n) = n
number_in (refused n i) = 0

-- how many bytes were written, and 0 where the text was refused
pub bytes_known : (w : Answer) {n : ℕ} → n ≡ result_unwrap_or w 0 → (m : ℕ) → answered w ≡ given m → n ≡ m
bytes_known (Ok k) e m f = e ∙ ap number_in f
bytes_known (Err x) e m f = absurd (let z : ◌≡◌ {A = ℕ} 0 1 = cc in omega arith)

-- a text that has room is given
pub room_given : (text : List ℕ) (room : ℕ) → length text ≤ room → in_room text room ≡ given text
room_given text room h = room_told text room false (le-ltb room (length text) h)

pub printed_as : {a b : List ℕ} {out : List ℕ} {w : Answer} {out' : List ℕ} → a ≡ b → PrintedTo (in_room a (length out)) out w out' → PrintedTo (in_room b (length out)) out w out'
printed_as {a} {b} {out} {w} {out'} e p = subst (λ (x : List ℕ). PrintedTo (in_room x (length out)) out w out') e p

-- the plan is not refused, and so only the list can be
pub plan_told : (cells items areas : List ℕ) (locals probes depth : ℕ) {out : List ℕ} {w : Answer} {out' : List ℕ} → shared_verdict cells items areas locals ≡ Fine
    → PrintedTo (plan_text cells items areas locals probes depth (length out)) out w out' → PrintedTo (in_room (printed cells items areas locals probes depth) (length out)) out w out'
plan_told cells items areas locals probes depth {out} {w} {out'} e p =
    subst (λ (x : Outcome (List ℕ)). PrintedTo x out w out') (plan_in_room cells items areas locals probes depth (length out) e) p

-- ---- an accepted text has few records of each group

pub few_of : (text rows counts : List ℕ) {w : Verdict} → w ≡ Fine → Finished text w rows counts → Few counts
few_of text rows counts e F =
    let v = text_fine text F e in
    let R = F.records v in
    record {
      head = rw (R.counted head_group (lit< tt)) (head_counted (lines_of text) (first_left (lines_verdict (lines_of text)) _ v));
      few = λ k h.
          let a = accepted_few text v k h in
          let b = room_most k h in
          let d = R.counted k h in
          omega arith;
    }

-- ---- what stands is what the program prints

module _ (text rows counts : List ℕ) where
  same_numbers : Records text rows counts → (k : ℕ) → k < group_count → numbers_at rows counts k ≡ numbers_in text k
  same_numbers R k h = ap (λ (n : ℕ). part (base_at k) ((group_at k).width * n) rows) (R.counted k h) ∙ R.rows_are k h

  pub accepted : {v : Verdict} → v ≡ Fine → Finished text v rows counts → printed_for (numbers_at rows counts) Fine ≡ program_text text
  accepted {v} e F =
      let s = same_numbers (F.records (text_fine text F e)) in
      ap (printed_for (numbers_at rows counts)) (sym (text_fine text F e))
      ∙ same_printed (numbers_at rows counts) (numbers_in text) (read_verdict text) (s 0 (lit< tt)) (s 1 (lit< tt)) (s 2 (lit< tt))
      (s 3 (lit< tt)) (s 4 (lit< tt)) (s 5 (lit< tt)) (s 6 (lit< tt)) (s 7 (lit< tt)) (s 8 (lit< tt)) (s 9 (lit< tt)) (s 10 (lit< tt)) (s 11 (lit< tt)) (s 12 (lit< tt))

  pub turned_back : {v : Verdict} (r : Refusal) (i : ℕ) → v ≡ Bad r i → Finished text v rows counts → refusal_text (number_of r) i ≡ program_text text
  unfolding printed_for first
  turned_back {v} r i e F = ap (λ (x : Verdict). told (unless (first x (refusal (numbers_in text))) (job_text (job (numbers_in text)) (terms_for (numbers_in text)).budget))) (sym e ∙ numbered_same v (read_verdict text) F.verdict)

-- ---- the answer of the whole job, as text

pub sum_is : {a b x y : ℕ} → a ≡ x → b ≡ y → a + b ≡ x + y
sum_is e f = omega arith

told_refused : (v : Verdict) (p : Plan) (n i : ℕ) → refused n i ≡ tally_of (unless v p) → (t : List ℕ) → refusal_text n i ≡ told (unless v t)
told_refused Fine p n i e t = absurd (let z : ◌≡◌ {A = ℕ} 0 1 = cc in omega arith)
told_refused (Err x) p n i e t =
    let a : n ≡ number_of x.0 = cc in
    let b : i ≡ x.1 = cc in
    rw (a, b) refl

take_front : (l more : List ℕ) (b : ℕ) → b ≡ length l → take (b - 0) (drop 0 (l ++ more)) ≡ l
take_front l more b e = let f : b - 0 ≡ length l = omega arith in ap (λ (k : ℕ). take k (l ++ more)) f ∙ take-append_seam l more

fine_same : {c c' i i' a a' : List ℕ} {l l' : ℕ} → c ≡ c' → i ≡ i' → a ≡ a' → l ≡ l' → shared_verdict c' i' a' l' ≡ Fine → shared_verdict c i a l ≡ Fine
fine_same e f k g h = rw (e, f, k, g) h

abbrev pub make_local : (ℕ → ℕ) → Local
make_local f = record { size = f 0; align = f 1 }

module _ (rows counts : List ℕ) (long : length rows ≡ row_numbers) (F : Few counts) where
  abbrev group : ℕ → List ℕ
  group = numbers_at rows counts

  abbrev J : Job
  J = job group

  local_count_lem : length J.locals ≡ get_or counts local_group 0
  local_count_lem =
      let f = F.few local_group (lit< tt) in
      let l = length_part (base_at local_group) (2 * get_or counts local_group 0) rows (omega arith) in
      length_records local_width make_local (group local_group) ∙ (let z : length (group local_group) / 2 ≡ get_or counts local_group 0 = omega arith in z)

  slot_count_lem : length J.slots ≡ get_or counts slot_group 0
  slot_count_lem =
      let f = F.few slot_group (lit< tt) in
      let l = length_part (base_at slot_group) (1 * get_or counts slot_group 0) rows (omega arith) in
      (let z : length (group slot_group) ≡ get_or counts slot_group 0 = omega arith in z)

  -- the plan that the records get
  abbrev P : Plan
  P = job_plan J (terms_for group).budget

  module _ (cells items areas : List ℕ) (offsets : List ℤ) (work : List ℕ) (r : Result Tally Refused) (cells' items' areas' : List ℕ) (offsets' : List ℤ) (work' : List ℕ)
      (E : SharedFor group cells items areas offsets work r cells' items' areas' offsets' work')
      (lc : length cells ≡ cell_numbers) (li : length items ≡ item_numbers) (la : length areas ≡ area_numbers) (lo : length offsets ≡ offset_numbers) (lw : length work ≡ work_words) where
    verdict_is : verdict_for group (length cells) (length items) (length areas) (length offsets) (length work) ≡ refusal group
    verdict_is = rw (lc, li, la, lo, lw) refl

    answer_is : answered r ≡ tally_of (unless (refusal group) P)
    answer_is = E.lists.answer ∙ ap (λ (v : Verdict). tally_of (unless v P)) verdict_is

    -- a refusal
    pub plan_refused : (q : Refusal) (i : ℕ) → r ≡ Err (q, i) → refusal_text (number_of q) i ≡ printed_for group Fine
    unfolding printed_for first
    plan_refused q i e = told_refused (refusal group) P (number_of q) i (ap answered (sym e) ∙ answer_is) (job_text J (terms_for group).budget)

    -- a plan
    module _ (c p d : ℕ) (re : r ≡ Ok (record { cells = c; probes = p; depth = d })) where
      none_refused : refusal group ≡ Fine
      none_refused = not_refused (refusal group) P (record { cells = c; probes = p; depth = d }) (ap answered (sym re) ∙ answer_is)

      printable : Printable (item_count J) (length J.locals) (item_area J) P
      printable =
          job_printable J (terms_for group).budget (let a = local_count_lem in let f = F.few local_group (lit< tt) in omega arith) (let a = slot_count_lem in let f = F.few slot_group (lit< tt) in omega arith)
          (list_fine J P (lent_for group cell_numbers item_numbers area_numbers offset_numbers work_words) none_refused)

      tally_is : record { cells = c; probes = p; depth = d } ≡ tallied P
      tally_is = told_tally (refusal group) P _ (ap answered (sym re) ∙ answer_is)

      cells_are : cells' ≡ cell_rows P ++ drop (length (cell_rows P)) cells
      cells_are = E.lists.in_cells ∙ ap (λ (v : Verdict). after (unless v P) cell_rows cells) (verdict_is ∙ none_refused)

      items_are : items' ≡ item_rows (item_count J) (item_area J) P ++ drop (length (item_rows (item_count J) (item_area J) P)) items
      items_are = E.lists.in_items ∙ ap (λ (v : Verdict). after (unless v P) (item_rows (item_count J) (item_area J)) items) (verdict_is ∙ none_refused)

      areas_are : areas' ≡ area_rows (item_count J) (item_area J) ++ drop (length (area_rows (item_count J) (item_area J))) areas
      areas_are = E.lists.in_areas ∙ ap (λ (v : Verdict). after (unless v P) (λ _. area_rows (item_count J) (item_area J)) areas) (verdict_is ∙ none_refused)

      -- the cells have room in their list
      pub cells_in : c ≤ 128
      cells_in =
          let e : c ≡ length P.cells = ap (λ (t : Tally). t.cells) tally_is in
          omega (arith, printable.few, printable.few_slots, printable.few_locals, printable.locals_in)

      module _ (n : ℕ) (n-is : n ≡ get_or counts local_group 0 + get_or counts slot_group 0) (kept : length areas' ≡ area_numbers) where
        abbrev cs : List ℕ
        cs = take (cell_width * c - 0) (drop 0 cells')

        abbrev is : List ℕ
        is = take (item_width * n - 0) (drop 0 items')

        cs-is : cs ≡ cell_rows P
        cs-is =
            ap (λ (l : List ℕ). take (cell_width * c - 0) (drop 0 l)) cells_are
            ∙ take_front (cell_rows P) (drop (length (cell_rows P)) cells) (cell_width * c) (ap (λ (t : Tally). cell_width * t.cells) tally_is ∙ sym (cells_long P))

        is-is : is ≡ item_rows (item_count J) (item_area J) P
        is-is =
            ap (λ (l : List ℕ). take (item_width * n - 0) (drop 0 l)) items_are
            ∙ take_front (item_rows (item_count J) (item_area J) P) (drop (length (item_rows (item_count J) (item_area J) P)) items) (item_width * n)
            (let x = local_count_lem in let y = slot_count_lem in let z = items_long (item_area J) (item_count J) P in omega arith)

        abbrev behind : List ℕ
        behind = drop (length (area_rows (item_count J) (item_area J))) areas

        areas_kept : length (area_rows (item_count J) (item_area J) ++ behind) ≡ area_numbers
        areas_kept = ap length (sym areas_are) ∙ kept

        text_is : printed cs is areas' (get_or counts local_group 0) p d ≡ job_text J (terms_for group).budget
        unfolding job_text
        text_is =
            printed_same cs-is is-is areas_are (sym local_count_lem) (ap (λ (t : Tally). t.probes) tally_is) (ap (λ (t : Tally). t.depth) tally_is)
            ∙ text_before printable behind areas_kept

        pub print_ready : shared_verdict cs is areas' (get_or counts local_group 0) ≡ Fine
        print_ready = fine_same cs-is is-is areas_are (sym local_count_lem) (plan_fine printable behind areas_kept)

        pub plan_printed : printed cs is areas' (get_or counts local_group 0) p d ≡ printed_for group Fine
        unfolding printed_for first
        plan_printed = text_is ∙ ap (λ (v : Verdict). told (unless v (job_text J (terms_for group).budget))) (sym none_refused)

-- ---- for the program

-- what its reader left
pub read_of : {r : Reader} {n : ℕ} {line rows counts : List ℕ} {m : ℕ} {v : Verdict} → Ready r n line rows counts m → Finishes r n rows v → Read v rows counts
read_of {line = line} {counts = counts} y f = record {
  text = y.text;
  finished = record { verdict = f.answer y.text line counts y.reading; records = f.records y.text line counts y.reading };
  rows_length = y.reading.held.taken.rows_length;
  counts_length = y.reading.held.taken.counts_length;
}

-- the bytes stand in the list
pub answer_in : {v : Verdict} {rows counts out : List ℕ} {n : ℕ} {out' : List ℕ} → Read v rows counts → Answers v rows counts out n out' → n ≤ length out'
answer_in {out = out} {out' = out'} y a =
    let s = a y.text y.finished in
    let e : length out' ≡ length (program_text y.text ++ drop (length (program_text y.text)) out) = ap length s.in_out in
    let l = length-append (program_text y.text) (drop (length (program_text y.text)) out) in
    let c = s.count in
    omega arith
