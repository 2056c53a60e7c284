-- From what `job::share` promises and its answer in one number to what the exported job promises, by how many counts there is room for.
use Rattle.std.specs.Prelude.{Err, Result}
use Prim.Native.Nat.{ℕ, ◌≤◌, ◌<◌}
use mathlib.Core.Path.{◌≡◌, refl, sym, ap, ◌∙◌}
use mathlib.Core.Bool.{Bool}
use mathlib.Core.List.{List}
use lib.IntN.{ℤ}
use lib.ListN.{length, replicate}
use borrow.Author.Tests.{lt-ltb, le-ltb}
use Rattle.refusals.specs.declared.Refusal.{Refusal}
use Rattle.refusals.specs.declared.Refusal.TheVariants.{Space}
use Rattle.refusals.specs.Verdicts.{number_of, first, check, Bad, Fine, Verdict}
use Rattle.refusals.specs.Outcomes.{Outcome, unless, after, answered}
use Rattle.refusals.proofs.Laws.{first_fine, first_bad, first_last}
use Rattle.areas.specs.Job.{item_count, item_area}
use Rattle.fitting.specs.Plan.{Plan}
use Rattle.wants.specs.Entry.{tally_of, cell_rows, cell_offsets}
use Rattle.job_space.specs.Space.{space_of, sizes_of}
use Rattle.soundness.specs.Demand.{job_plan}
use Rattle.job_answers.specs.Answers.{answer_verdict}
use Rattle.job.specs.Entry.{lent_verdict, SharedAs}
use Rattle.codes.specs.Codes.{refusal_code, code_of, verdict_code}
use Rattle.want_codes.specs.Plans.{counts_of}
use Rattle.want_codes.specs.Inner.{PlanTold}
use Rattle.job_codes.specs.Job.{measured_verdict, items_told, areas_told, JobCoded}
use Rattle.job_space.specs.Rows.{Rows}
use Rattle.fitting.specs.declared.Terms.{Terms}
use Rattle.job_checks.specs.Job.{job_of}
use Rattle.words.specs.Widths.{range_count}
use Rattle.refusals.specs.declared.Refused.{Refused}
use Rattle.wants.specs.declared.Tally.{Tally}

-- whatever comes before, a refusal at last is a refusal
never_fine : (v : Verdict) → (r : Refusal) × (i : ℕ) × (first v (Bad Space 0) ≡ Bad r i)
unfolding first
never_fine Fine = (Space, 0, refl)
never_fine (Err e) = (e.0, e.1, refl)

module _ (R : Rows) (t : Terms) where
  -- the ways out of `short`
  module _ (cells items areas offsets work : ℕ) where
    abbrev lent : Verdict
    lent = lent_verdict R t cells items areas offsets work

    pub short_lent : {n : ℕ} (r : Refusal) (i : ℕ) → lent ≡ Bad r i → n ≡ refusal_code (number_of r) i → n ≡ verdict_code (first lent (Bad Space 0))
    short_lent r i e q = q ∙ ap verdict_code (sym (first_bad lent (Bad Space 0) r i e))

    pub short_space : {n : ℕ} → lent ≡ Fine → n ≡ refusal_code 7 0 → n ≡ verdict_code (first lent (Bad Space 0))
    short_space e q = q ∙ ap verdict_code (sym (first_fine lent (Bad Space 0) e))

  module _ (cells items areas : List ℕ) (offsets : List ℤ) (counts work : List ℕ) where
    abbrev lent_now : Verdict
    lent_now = lent_verdict R t (length cells) (length items) (length areas) (length offsets) (length work)

    abbrev plan_now : Plan
    plan_now = job_plan (job_of R) t.budget

    abbrev list_now : Verdict
    list_now = answer_verdict (item_count (job_of R)) (item_area (job_of R)) (range_count areas) plan_now

    abbrev items_now : Plan → List ℕ
    items_now = items_told R

    abbrev areas_now : Plan → List ℕ
    areas_now = areas_told R

    -- room for three counts: the entry's own verdicts
    enough : 3 ≤ length counts → measured_verdict R t (length cells) (length items) (length areas) (length offsets) (length counts) (length work) ≡ lent_now
    enough h = ap (λ (b : Bool). first lent_now (check Space b)) (le-ltb (length counts) 3 h) ∙ first_last lent_now

    pub job_coded : {cells' items' areas' counts' work' : List ℕ} {offsets' : List ℤ} {s : (Result Tally Refused)} {r : ℕ} → 3 ≤ length counts
        → SharedAs R t cells items areas offsets work s cells' items' areas' offsets' work' → PlanTold counts (answered s) r counts'
        → JobCoded R t cells items areas offsets counts work r cells' items' areas' offsets' counts' work'
    job_coded h a t =
        let e = sym (enough h) in
        record {
          answer = t.answer ∙ ap code_of a.lists.answer ∙ ap (λ (w : Verdict). code_of (tally_of (unless (first w list_now) plan_now))) e;
          in_cells = a.lists.in_cells ∙ ap (λ (w : Verdict). after (unless (first w list_now) plan_now) cell_rows cells) e;
          in_items = a.lists.in_items ∙ ap (λ (w : Verdict). after (unless (first w list_now) plan_now) items_now items) e;
          in_areas = a.lists.in_areas ∙ ap (λ (w : Verdict). after (unless (first w list_now) plan_now) areas_now areas) e;
          in_offsets = a.lists.in_offsets ∙ ap (λ (w : Verdict). after (unless (first w list_now) plan_now) cell_offsets offsets) e;
          in_counts = t.in_counts ∙ ap (λ (x : Outcome Tally). after x counts_of counts) a.lists.answer ∙ ap (λ (w : Verdict). after (tally_of (unless (first w list_now) plan_now)) counts_of counts) e;
          in_work = a.in_work ∙ ap (λ (w : Verdict). after (unless w (space_of (sizes_of R (length areas)))) (λ n. replicate n 0) work) e;
        }

    -- too little room: a refusal, and everything as it was
    pub job_short : {r : ℕ} → length counts < 3 → r ≡ verdict_code (first lent_now (Bad Space 0)) → JobCoded R t cells items areas offsets counts work r cells items areas offsets counts work
    job_short h q =
        let (k, i, e) = never_fine lent_now in
        let m : measured_verdict R t (length cells) (length items) (length areas) (length offsets) (length counts) (length work) ≡ Bad k i =
        ap (λ (b : Bool). first lent_now (check Space b)) (lt-ltb (length counts) 3 h) ∙ e in
        let c = sym (first_bad _ list_now k i m) in
        record {
          answer = q ∙ ap verdict_code e ∙ ap (λ (w : Verdict). code_of (tally_of (unless w plan_now))) c;
          in_cells = ap (λ (w : Verdict). after (unless w plan_now) cell_rows cells) c;
          in_items = ap (λ (w : Verdict). after (unless w plan_now) items_now items) c;
          in_areas = ap (λ (w : Verdict). after (unless w plan_now) areas_now areas) c;
          in_offsets = ap (λ (w : Verdict). after (unless w plan_now) cell_offsets offsets) c;
          in_counts = ap (λ (w : Verdict). after (tally_of (unless w plan_now)) counts_of counts) c;
          in_work = ap (λ (w : Verdict). after (unless w (space_of (sizes_of R (length areas)))) (λ n. replicate n 0) work) (sym m);
        }
