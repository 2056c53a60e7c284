-- A plan that an exported function wrote, as the queries see it: each query of it is the definition's, and none refuses it.
use Rattle.std.specs.Prelude.{Err, Ok}
use Prim.Native.Nat.{ℕ, ◌+◌, ◌*◌, ◌%◌, ◌^◌, ◌≤◌, ◌<◌}
use native.Mathlib.Omega.{arith}
use mathlib.Core.Path.{◌≡◌, refl, ap, sym, ◌∙◌}
use mathlib.Core.Bool.{Bool, false, ◌||◌}
use mathlib.Core.List.{List, [], ◌∷◌}
use lib.IntN.{ℤ}
use lib.ListN.{length, take, replicate}
use Rattle.refusals.specs.declared.Refusal.TheVariants.{Count, Space}
use Rattle.refusals.specs.Verdicts.{in_order, check, Fine, Verdict}
use Rattle.refusals.specs.Outcomes.{unless, after, numbered, answered as told_as}
use Rattle.refusals.proofs.Laws.{first_left, first_right, check_told}
use Rattle.words.proofs.Bools.{or_neither}
use Rattle.words.specs.Widths.{local_count, cell_width, item_width, item_cell, range_width, range_count, want_count, slot_count}
use Rattle.fitting.specs.Wants.{order_of}
use Rattle.fitting.specs.Layout.{rooms_in, depth_of, layout_verdict, laid_verdict, RowsLaid}
use Rattle.fitting.specs.Lowest.{PutLowest}
use Rattle.ranges.specs.Forms.{areas_of}
use Rattle.fitting.specs.Queries.{answered, apart}
use Rattle.words.proofs.RowLaws.{length_tabulate}
use Rattle.queries.specs.Seen.{PlanSeen}
use Rattle.queries.proofs.SeenLaws.{answered_is}
use Rattle.fitting.specs.Plan.{Plan}
use Rattle.want_checks.specs.Checks.{bad_count, bad_space, wants_verdict, space_of, verdict}
use Rattle.wants.specs.Entry.{wants_of, plan_for, tally_of, cell_rows, item_rows, cell_offsets, FittedAlone}
use Rattle.wants.proofs.SeenLaws.{wants_long, held as fit-held, fit_laid, fit_seen, fit_lowest}
use Rattle.want_codes.specs.Plans.{few_counts, coded_verdict, PlanCoded}
use Rattle.apart.specs.Apart.{locals_of, widths_of, apart_verdict, apart_of, ApartBy}
use Rattle.apart.proofs.SeenLaws.{plan_is, held as apart-held, apart_seen}
use Rattle.capping.specs.Cap.{cap_verdict, cap_rows}
use Rattle.capping.specs.Inner.{capped_plan}
use Rattle.capping.proofs.SeenLaws.{cap_passes, capped_seen}
use Rattle.areas.specs.Job.{item_count}
use Rattle.soundness.specs.Demand.{want_of, wants_of as jobWants, job_plan}
use Rattle.job.proofs.Seen.{held as job-held, job_laid, job_seen, job_lowest}
use Rattle.codes.specs.Codes.{verdict_code}
use Rattle.codes.proofs.CodeLaws.{refusal_no_answer}
use Rattle.job_codes.specs.Job.{JobCoded}
use Rattle.slots.specs.Exports.{ApartCoded}
use Rattle.export_laws.proofs.Demand.{no_refusal, shared}
use Rattle.job_space.specs.Rows.{Rows}
use Rattle.fitting.specs.declared.Terms.{Terms}
use Rattle.job_checks.specs.Job.{job_of}

-- ---- the whole job: its rows, as many cells as the plan has

module _ {R : Rows} {t : Terms} {cells items areas counts work cells' items' areas' counts' work' : List ℕ} {offsets offsets' : List ℤ} {r : ℕ}
    (E : JobCoded R t cells items areas offsets counts work r cells' items' areas' offsets' counts' work') (h : r < 2 ^ 32) where
  pub export_job_seen : PlanSeen (answered (jobWants (job_of R)) (local_count R.locals) (job_plan (job_of R) t.budget)) (local_count R.locals)
      (take (cell_width * length (job_plan (job_of R) t.budget).cells) cells') (take (item_width * (local_count R.locals + slot_count R.slots)) items') areas'
  export_job_seen = job_seen (shared E h _ _ _ refl)

  pub export_job_lowest : PutLowest (jobWants (job_of R)) t.budget (order_of (jobWants (job_of R))) (λ i. item_cell items' i)
  export_job_lowest = job_lowest (shared E h _ _ _ refl)

  -- the offsets that it wrote, by the cells and the depth that it wrote: each a multiple of its cell's alignment, no byte in two cells
  pub export_job_laid : RowsLaid (length (job_plan (job_of R) t.budget).cells) cells' offsets' (depth_of (rooms_in (job_plan (job_of R) t.budget)))
  export_job_laid = job_laid (shared E h _ _ _ refl)

  -- `cap` of its cells is not refused either, and the queries then see the plan with its alignments lowered
  pub export_job_cap : cap_verdict (take (cell_width * length (job_plan (job_of R) t.budget).cells) cells') (length (job_plan (job_of R) t.budget).cells) ≡ Fine
  export_job_cap = cap_passes (job-held (shared E h _ _ _ refl))

  pub export_job_capped : (most : ℕ) → PlanSeen (capped_plan most (answered (jobWants (job_of R)) (local_count R.locals) (job_plan (job_of R) t.budget))) (local_count R.locals)
      (cap_rows (take (cell_width * length (job_plan (job_of R) t.budget).cells) cells') (length (job_plan (job_of R) t.budget).cells) most) (take (item_width * (local_count R.locals + slot_count R.slots)) items') areas'
  export_job_capped most =
      capped_seen (job-held (shared E h _ _ _ refl)) most (answered (jobWants (job_of R)) (local_count R.locals) (job_plan (job_of R) t.budget))
      (answered_is (jobWants (job_of R)) (job_plan (job_of R) t.budget) (local_count R.locals) (item_count (job_of R)) (length_tabulate (item_count (job_of R)) (want_of (job_of R))))

-- ---- fitting alone

module _ (wants areas : List ℕ) (locals budget cells items offsets counts work : ℕ) where
  abbrev short : Bool
  short = bad_space wants areas cells items offsets work

  -- with room for the counts the entry refuses nothing else
  room_too : check Space (short || few_counts counts) ≡ Fine → short ≡ short || few_counts counts
  room_too e =
      let q : short || few_counts counts ≡ false = check_told Space (short || few_counts counts) e in
      (or_neither short (few_counts counts) q).0 ∙ sym q

  entry_fine : coded_verdict wants areas locals budget cells items offsets counts work ≡ Fine → verdict wants areas locals budget cells items offsets work ≡ Fine
  unfolding verdict in_order
  entry_fine e =
      let room : check Space (short || few_counts counts) ≡ Fine =
      first_left (check Space (short || few_counts counts)) (in_order (wants_verdict areas wants ∷ []))
      (first_right (check Count (bad_count wants areas locals budget cells items)) _ e) in
      ap (λ (b : Bool). in_order (check Count (bad_count wants areas locals budget cells items) ∷ check Space b ∷ wants_verdict areas wants ∷ [])) (room_too room) ∙ e

module _ (locals budget : ℕ) {wants areas cells items counts work cells' items' counts' work' : List ℕ} {offsets offsets' : List ℤ} {r : ℕ}
    (E : PlanCoded wants areas (coded_verdict wants areas locals budget (length cells) (length items) (length offsets) (length counts) (length work)) (plan_for wants areas budget)
    cells items offsets counts work r cells' items' offsets' counts' work') (h : r < 2 ^ 32) where
  abbrev coded : Verdict
  coded = coded_verdict wants areas locals budget (length cells) (length items) (length offsets) (length counts) (length work)

  abbrev own : Verdict
  own = verdict wants areas locals budget (length cells) (length items) (length offsets) (length work)

  abbrev plan : Plan
  plan = plan_for wants areas budget

  whole_fine : laid_verdict coded plan ≡ Fine
  whole_fine = no_refusal (laid_verdict coded plan) plan (omega (arith, E.answer))

  coded_fine : coded ≡ Fine
  coded_fine = first_left coded (layout_verdict (rooms_in plan)) whole_fine

  same : coded ≡ own
  same = coded_fine ∙ sym (entry_fine wants areas locals budget (length cells) (length items) (length offsets) (length counts) (length work) coded_fine)

  fitted : (c p d : ℕ) → told_as (Ok (record { cells = c; probes = p; depth = d })) ≡ tally_of (unless Fine plan) → FittedAlone wants areas own plan cells items offsets work (Ok (record { cells = c; probes = p; depth = d })) cells' items' offsets' work'
  fitted c p d e =
      let q = ap (λ (v : Verdict). laid_verdict v plan) same in
      record {
        lists = record {
          answer = e ∙ ap (λ (x : Verdict). tally_of (unless x plan)) (sym whole_fine ∙ q);
          in_cells = E.in_cells ∙ ap (λ (x : Verdict). after (unless x plan) cell_rows cells) q;
          in_items = E.in_items ∙ ap (λ (x : Verdict). after (unless x plan) (item_rows wants) items) q;
          in_offsets = E.in_offsets ∙ ap (λ (x : Verdict). after (unless x plan) cell_offsets offsets) q;
        };
        in_work = E.in_work ∙ ap (λ (v : Verdict). after (unless v (space_of wants areas)) (λ n. replicate n 0) work) same;
      }

  pub export_fit_laid : RowsLaid (length (plan_for wants areas budget).cells) cells' offsets' (depth_of (rooms_in (plan_for wants areas budget)))
  export_fit_laid = fit_laid locals budget (fitted _ _ _ refl)

  pub export_fit_seen : PlanSeen (answered (wants_of (areas_of areas) wants) locals (plan_for wants areas budget)) locals (take (cell_width * length (plan_for wants areas budget).cells) cells') (take (item_width * want_count wants) items') areas
  export_fit_seen = fit_seen locals budget (fitted _ _ _ refl)

  pub export_fit_lowest : PutLowest (wants_of (areas_of areas) wants) budget (order_of (wants_of (areas_of areas) wants)) (λ i. item_cell items' i)
  export_fit_lowest = fit_lowest locals budget (fitted _ _ _ refl)

  pub export_fit_cap : cap_verdict (take (cell_width * length (plan_for wants areas budget).cells) cells') (length (plan_for wants areas budget).cells) ≡ Fine
  export_fit_cap = cap_passes (fit-held locals budget (fitted _ _ _ refl))

  pub export_fit_capped : (most : ℕ) → PlanSeen (capped_plan most (answered (wants_of (areas_of areas) wants) locals (plan_for wants areas budget))) locals
      (cap_rows (take (cell_width * length (plan_for wants areas budget).cells) cells') (length (plan_for wants areas budget).cells) most) (take (item_width * want_count wants) items') areas
  export_fit_capped most =
      capped_seen (fit-held locals budget (fitted _ _ _ refl)) most (answered (wants_of (areas_of areas) wants) locals (plan_for wants areas budget))
      (answered_is (wants_of (areas_of areas) wants) (plan_for wants areas budget) locals (want_count wants) (wants_long wants areas locals budget))

-- ---- `apart`

no_code : (v : Verdict) → verdict_code v < 2 ^ 32 → v ≡ Fine
no_code Fine h = refl
no_code (Err e) h = absurd (omega (arith, refusal_no_answer e.0 e.1 _ h))

module _ (locals slots : List ℕ) {cells items cells' items' : List ℕ} {r : ℕ}
    (E : ApartCoded (apart_verdict locals slots (length cells) (length items)) (apart_of locals slots (length cells) (length items)) cells items r cells' items') (h : r < 2 ^ 32) where
  done : ApartBy (apart_verdict locals slots (length cells) (length items)) (apart_of locals slots (length cells) (length items)) cells items Fine cells' items'
  done = record { answer = ap numbered (sym (no_code (apart_verdict locals slots (length cells) (length items)) (omega (arith, E.answer)))); in_cells = E.in_cells; in_items = E.in_items }

  pub export_apart_seen : (areas : List ℕ) → length areas % range_width ≡ 0 → range_count areas ≤ 65536
      → PlanSeen (apart (locals_of locals) (widths_of slots)) (local_count locals) (take (cell_width * (local_count locals + slot_count slots)) cells') (take (item_width * (local_count locals + slot_count slots)) items') areas
  export_apart_seen areas w s = apart_seen locals slots done areas w s

  pub export_apart_cap : cap_verdict (take (cell_width * (local_count locals + slot_count slots)) cells') (local_count locals + slot_count slots) ≡ Fine
  export_apart_cap = cap_passes (apart-held locals slots done [] refl (omega arith))

  pub export_apart_capped : (most : ℕ) (areas : List ℕ) → length areas % range_width ≡ 0 → range_count areas ≤ 65536
      → PlanSeen (capped_plan most (apart (locals_of locals) (widths_of slots))) (local_count locals)
      (cap_rows (take (cell_width * (local_count locals + slot_count slots)) cells') (local_count locals + slot_count slots) most) (take (item_width * (local_count locals + slot_count slots)) items') areas
  export_apart_capped most areas w s = capped_seen (apart-held locals slots done areas w s) most (apart (locals_of locals) (widths_of slots)) (plan_is locals slots)
