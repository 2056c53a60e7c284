-- Demand 3 of the entry, in terms of what a call returned and wrote.
use Prim.Native.Nat.{ℕ, zero, suc, ◌*◌, ◌<◌}
use native.Mathlib.Omega.{arith}
use native.Mathlib.Nat.{add-zero, not-suc-le-zero}
use mathlib.Core.Path.{◌≡◌, sym, ap, ◌∙◌}
use mathlib.Core.List.{List, [], ◌∷◌, ◌++◌, map}
use lib.IntN.{ℤ}
use lib.ListN.{length, get_or, drop}
use Rattle.refusals.specs.Outcomes.{unless, after}
use Rattle.refusals.proofs.Laws.{first_left}
use Rattle.words.specs.Rows.{flat}
use Rattle.words.specs.Widths.{cell_width, item_width, range_count}
use Rattle.areas.specs.Job.{Job, Checked, item_count, item_area}
use Rattle.fitting.specs.Wants.{order_of}
use Rattle.fitting.specs.Plan.{Cell, cell_at}
use Rattle.wants.specs.Inner.{cell_row}
use Rattle.wants.specs.Entry.{cell_rows}
use Rattle.job_checks.specs.Job.{job_of, Passed}
use Rattle.soundness.specs.Walks.{Step, Legal}
use Rattle.soundness.specs.Inner.{Separate}
use Rattle.soundness.specs.Demand.{wants_of, frame_of, job_plan, AsPrivate}
use Rattle.soundness.proofs.Demand.{job_order, separate, uses, any_cells, demand_3}
use Rattle.job_answers.specs.Answers.{item_rows, answer_verdict}
use Rattle.job_answers.proofs.SeenLaws.{cell_listed}
use Rattle.wants.proofs.TallyLaws.{not_refused}
use Rattle.job.specs.Entry.{lent_verdict, verdict_of, SharedAs}
use Rattle.job.specs.Reads.{cell_in, size_in}
use Rattle.job.proofs.CheckLaws.{granted}
use Rattle.job_space.specs.Rows.{Rows}
use Rattle.fitting.specs.declared.Terms.{Terms}
use Rattle.refusals.specs.Verdicts.{Fine, Verdict}
use Rattle.std.specs.Prelude.{Ok}

-- number 2·c of the cell list is cell c's size
listed_size : (cs : List Cell) (old : List ℕ) (c b : ℕ) → b < (cell_at cs c).size → b < get_or (flat (map cell_row cs) ++ old) (cell_width * c) 0
unfolding flat
listed_size [] old c b h = absurd (not-suc-le-zero h)
listed_size (x ∷ cs) old zero b h = h
listed_size (x ∷ cs) old (suc c) b h =
    let e : cell_width * suc c ≡ suc (suc (cell_width * c)) = omega arith in
    rw e (listed_size cs old c b h)

module _ {R : Rows} {t : Terms} {cells items areas work cells' items' areas' work' : List ℕ} {offsets offsets' : List ℤ} {c p d : ℕ}
    (E : SharedAs R t cells items areas offsets work (Ok (record { cells = c; probes = p; depth = d })) cells' items' areas' offsets' work') where
  -- the job's records
  abbrev J : Job
  J = job_of R

  pub none_refused : verdict_of R t (length cells) (length items) (length areas) (length offsets) (length work) ≡ Fine
  none_refused = not_refused _ (job_plan J t.budget) _ E.lists.answer

  pub lent_fine : lent_verdict R t (length cells) (length items) (length areas) (length offsets) (length work) ≡ Fine
  lent_fine = first_left _ (answer_verdict (item_count J) (item_area J) (range_count areas) (job_plan J t.budget)) none_refused

  pub passed : Passed R (length areas)
  passed = (granted R t (length cells) (length items) (length areas) (length offsets) work lent_fine).lent.passed

  checked : Checked J
  checked = passed.checked

  -- the item list, with what stood behind the items' rows
  pub items_written : items' ≡ item_rows (item_count J) (item_area J) (job_plan J t.budget) ++ drop (length (item_rows (item_count J) (item_area J) (job_plan J t.budget))) items
  items_written = E.lists.in_items ∙ ap (λ (x : Verdict). after (unless x (job_plan J t.budget)) (item_rows (item_count J) (item_area J)) items) none_refused

  -- the cells that stand in the item list are the plan's
  pub cells_listed : (i : ℕ) → i < item_count J → cell_in items' i ≡ (job_plan J t.budget).cell i
  cells_listed i h =
      ap (λ (l : List ℕ). get_or l (item_width * i) 0) items_written
      ∙ ap (λ (k : ℕ). get_or (item_rows (item_count J) (item_area J) (job_plan J t.budget) ++ drop (length (item_rows (item_count J) (item_area J) (job_plan J t.budget))) items) k 0) (sym (add-zero (item_width * i)))
      ∙ cell_listed (item_area J) (item_count J) (job_plan J t.budget) i h _

  -- the cell list, with what stood behind the cells' rows
  pub cells_written : cells' ≡ cell_rows (job_plan J t.budget) ++ drop (length (cell_rows (job_plan J t.budget))) cells
  cells_written = E.lists.in_cells ∙ ap (λ (x : Verdict). after (unless x (job_plan J t.budget)) cell_rows cells) none_refused

  sizes_listed : (c b : ℕ) → b < (cell_at (job_plan J t.budget).cells c).size → b < size_in cells' c
  sizes_listed c b h = rw cells_written (listed_size (job_plan J t.budget).cells _ c b h)

  listed_separate : Separate (frame_of J) (cell_in items')
  listed_separate i j h k d e = separate J t.budget (order_of (wants_of J)) (job_order J) i j h k d (sym (cells_listed i h) ∙ e ∙ cells_listed j k)

  -- Demand 3: whenever the answer is a plan, every walk over the job's records reads through the cells in the answer lists as through private ones
  pub reads_as_private : (start : ℕ) (w : List Step) → Legal (frame_of J) start w → AsPrivate J (cell_in items') (size_in cells') start w
  reads_as_private start w L = record {
    alike = (any_cells J checked (cell_in items') listed_separate start w L).0;
    runs = (any_cells J checked (cell_in items') listed_separate start w L).1;
    below = λ n i b u.
        let a = (demand_3 J checked t.budget start w L).below n i b u in
        let k = cells_listed i (uses (frame_of J) start w L n i b u).item in
        rw k (sizes_listed ((job_plan J t.budget).cell i) b a);
  }
