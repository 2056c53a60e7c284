-- By paths, at the entry: what the rows that a call wrote tell of every item's area.
use Prim.Native.Nat.{ℕ, ◌<◌}
use native.Mathlib.Omega.{arith}
use mathlib.Core.Path.{◌≡◌, ap, ◌∙◌}
use mathlib.Core.List.{List, ◌∷◌, ◌++◌}
use lib.IntN.{ℤ}
use lib.ListN.{length, get_or, drop}
use Rattle.refusals.specs.Outcomes.{unless, after}
use Rattle.words.specs.Rows.{tabulate, field}
use Rattle.words.specs.Widths.{item_width}
use Rattle.areas.specs.Job.{Job, item_count, item_area, ranges_of}
use Rattle.areas.specs.Upright.{UprightIn}
use Rattle.areas.proofs.UprightLaws.{job_upright}
use Rattle.area_tables.specs.Tables.{area_rows}
use Rattle.area_points.specs.Parts.{AreasTold}
use Rattle.area_points.proofs.PartLaws.{rows_told}
use Rattle.item_lists.specs.Lists.{item_row}
use Rattle.fitting.specs.Plan.{Plan}
use Rattle.job_checks.specs.Job.{job_of}
use Rattle.soundness.specs.Demand.{job_plan}
use Rattle.job.specs.Entry.{SharedAs}
use Rattle.job_answers.proofs.SeenLaws.{field_listed}
use Rattle.job.proofs.Demand.{none_refused, passed, items_written}
use Rattle.job_space.specs.Rows.{Rows}
use Rattle.fitting.specs.declared.Terms.{Terms}
use Rattle.refusals.specs.Verdicts.{Verdict}
use Rattle.std.specs.Prelude.{Ok}

module _ {R : Rows} {t : Terms} {cells items areas work cells' items' areas' work' : List ℕ} {offsets offsets' : List ℤ} {c p d : ℕ}
    (E : SharedAs R t cells items areas offsets work (Ok (record { cells = c; probes = p; depth = d })) cells' items' areas' offsets' work') where
  -- the job's records
  abbrev J : Job
  J = job_of R

  abbrev plan : Plan
  plan = job_plan J t.budget

  areas_written : areas' ≡ area_rows (item_count J) (item_area J) ++ drop (length (area_rows (item_count J) (item_area J))) areas
  areas_written = E.lists.in_areas ∙ ap (λ (x : Verdict). after (unless x plan) (λ _. area_rows (item_count J) (item_area J)) areas) (none_refused E)

  field_written : (i : ℕ) → i < item_count J → (f : ℕ) → f < 4 → field item_width items' i f ≡ get_or (plan.cell i ∷ item_row (ranges_of (tabulate i (item_area J))) (item_area J i)) f 0
  field_written i h f q = ap (λ (l : List ℕ). field item_width l i f) (items_written E) ∙ field_listed (item_area J) (item_count J) plan i h _ f q

  -- whenever the answer is a plan: a point is in the part of the area list that item i's row names exactly when document 01's definition has it, by paths of a local, by moves and
  -- live pieces of a slot, and the row says absent exactly for an unfollowed local or a slot without area; two parts are the same list exactly when they have the same points
  pub shared_by_paths : AreasTold J 4 1 items' areas'
  shared_by_paths =
      rows_told J (passed E).checked (passed E).sound.some_block _ 4 1 items' areas' areas_written
      (λ i h. (field_written i h 1 (omega arith), field_written i h 2 (omega arith), field_written i h 3 (omega arith)))

  -- number 8 has no input: every range that is computed on the way to a plan is upright
  pub shared_upright : UprightIn J
  shared_upright = job_upright J (passed E).checked (passed E).sound.some_block
