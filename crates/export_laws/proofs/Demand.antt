-- Demand 3 of the exported job: where `slots_share` answers with no refusal's code, every walk reads through the cells that it wrote as through private ones.
use Rattle.std.specs.Prelude.{Err, Ok}
use Prim.Native.Nat.{ℕ, ◌^◌, ◌<◌}
use native.Mathlib.Omega.{arith}
use mathlib.Core.Path.{◌≡◌, refl, ap, sym, ◌∙◌}
use mathlib.Core.List.{List}
use lib.IntN.{ℤ}
use lib.ListN.{length, replicate}
use Rattle.refusals.specs.Verdicts.{first, Fine, Verdict}
use Rattle.refusals.specs.Outcomes.{unless, after, answered}
use Rattle.refusals.proofs.Laws.{first_left}
use Rattle.areas.specs.Job.{item_count, item_area}
use Rattle.fitting.specs.Plan.{Plan}
use Rattle.wants.specs.Entry.{tally_of, cell_rows, cell_offsets}
use Rattle.soundness.specs.Walks.{Step, Legal}
use Rattle.soundness.specs.Demand.{frame_of, job_plan, AsPrivate}
use Rattle.job_answers.specs.Answers.{answer_verdict}
use Rattle.job_space.specs.Space.{space_of, sizes_of}
use Rattle.job.specs.Entry.{lent_verdict, SharedAs}
use Rattle.job.specs.Reads.{cell_in, size_in}
use Rattle.job.proofs.Demand.{reads_as_private}
use Rattle.codes.specs.Codes.{code_of}
use Rattle.codes.proofs.CodeLaws.{refusal_no_answer}
use Rattle.job_codes.specs.Job.{measured_verdict, coded_verdict, items_told, areas_told, JobCoded}
use Rattle.job_space.specs.Rows.{Rows}
use Rattle.fitting.specs.declared.Terms.{Terms}
use Rattle.job_checks.specs.Job.{job_of}
use Rattle.words.specs.Widths.{range_count}

-- a number below 2 to the 32 is no refusal's
pub no_refusal : (v : Verdict) (p : Plan) → code_of (tally_of (unless v p)) < 2 ^ 32 → v ≡ Fine
no_refusal Fine p h = refl
no_refusal (Err e) p h = absurd (omega (arith, refusal_no_answer e.0 e.1 _ h))

module _ {R : Rows} {t : Terms} {cells items areas counts work cells' items' areas' counts' work' : List ℕ} {offsets offsets' : List ℤ} {r : ℕ}
    (E : JobCoded R t cells items areas offsets counts work r cells' items' areas' offsets' counts' work') (h : r < 2 ^ 32) where
  -- the entry's own verdict, and with the room for the counts
  abbrev lent : Verdict
  lent = lent_verdict R t (length cells) (length items) (length areas) (length offsets) (length work)

  abbrev verdict : Verdict
  verdict = coded_verdict R t (length cells) (length items) (length areas) (length offsets) (length counts) (length work)

  abbrev plan : Plan
  plan = job_plan (job_of R) t.budget

  fine : verdict ≡ Fine
  fine = no_refusal verdict plan (omega (arith, E.answer))

  measured : measured_verdict R t (length cells) (length items) (length areas) (length offsets) (length counts) (length work) ≡ Fine
  measured = first_left _ (answer_verdict (item_count (job_of R)) (item_area (job_of R)) (range_count areas) plan) fine

  -- neither verdict refuses
  same_lent : measured_verdict R t (length cells) (length items) (length areas) (length offsets) (length counts) (length work) ≡ lent
  same_lent = measured ∙ sym (first_left lent _ measured)

  -- the lists are those that `job::share` leaves with a plan
  pub shared : (c p d : ℕ) → answered (Ok (record { cells = c; probes = p; depth = d })) ≡ tally_of (unless Fine plan)
      → SharedAs R t cells items areas offsets work (Ok (record { cells = c; probes = p; depth = d })) cells' items' areas' offsets' work'
  shared c p d e =
      let q = ap (λ (x : Verdict). first x (answer_verdict (item_count (job_of R)) (item_area (job_of R)) (range_count areas) plan)) same_lent in
      record {
        lists = record {
          answer = e ∙ ap (λ (x : Verdict). tally_of (unless x plan)) (sym fine ∙ q);
          in_cells = E.in_cells ∙ ap (λ (x : Verdict). after (unless x plan) cell_rows cells) q;
          in_items = E.in_items ∙ ap (λ (x : Verdict). after (unless x plan) (items_told R) items) q;
          in_areas = E.in_areas ∙ ap (λ (x : Verdict). after (unless x plan) (areas_told R) areas) q;
          in_offsets = E.in_offsets ∙ ap (λ (x : Verdict). after (unless x plan) cell_offsets offsets) q;
        };
        in_work = E.in_work ∙ ap (λ (x : Verdict). after (unless x (space_of (sizes_of R (length areas)))) (λ n. replicate n 0) work) same_lent;
      }

  pub export_reads_as_private : (start : ℕ) (w : List Step) → Legal (frame_of (job_of R)) start w
      → AsPrivate (job_of R) (cell_in items') (size_in cells') start w
  export_reads_as_private = reads_as_private (shared _ _ _ refl)
