-- By paths, at the entry: what the rows that a call wrote tell of every item's area.
use Rattle.std.specs.Prelude.{Err, Ok}
use Prim.Native.Nat.{ℕ, ◌+◌, ◌*◌, ◌<◌}
use native.Mathlib.Omega.{arith}
use mathlib.Core.Path.{◌≡◌, refl, sym, ap, ◌∙◌}
use mathlib.Core.List.{List, ◌++◌}
use lib.ListN.{length, get_or, drop, get_or-append}
use Rattle.refusals.specs.Outcomes.{given, unless, after}
use Rattle.refusals.specs.Verdicts.{in_order, Fine, Verdict}
use Rattle.refusals.proofs.Laws.{first_left}
use Rattle.words.specs.Rows.{tabulate, field}
use Rattle.words.specs.Widths.{part_width, range_count}
use Rattle.words.proofs.FlatLaws.{flat_length, flat_at}
use Rattle.areas.specs.Job.{Job, item_count, item_area, ranges_of, items_verdict}
use Rattle.areas.specs.Upright.{UprightIn}
use Rattle.areas.proofs.UprightLaws.{job_upright}
use Rattle.area_tables.specs.Tables.{area_rows}
use Rattle.area_points.specs.Parts.{AreasTold}
use Rattle.area_points.proofs.PartLaws.{rows_told}
use Rattle.item_lists.specs.Lists.{item_row, item_rows}
use Rattle.item_lists.proofs.TableLaws.{row_long}
use Rattle.job_checks.specs.Job.{job_of, Passed}
use Rattle.item_areas.specs.Entry.{lent_verdict, item_checks, ItemAreas}
use Rattle.item_areas.specs.Inner.{total}
use Rattle.item_areas.proofs.CheckLaws.{lent}
use Rattle.item_areas.proofs.OrderLaws.{item_verdict}
use Rattle.job_space.specs.Rows.{Rows}

-- an answer is no refusal
told : (v : Verdict) (n k : ℕ) → given k ≡ unless v n → v ≡ Fine
told Fine n k e = refl
told (Err x) n k e = absurd (let z : ◌≡◌ {A = ℕ} 0 1 = cc in omega arith)

module _ {R : Rows} {areas items work areas' items' work' : List ℕ} {n : ℕ}
    (E : ItemAreas R areas items work (Ok n) areas' items' work') where
  -- the job's records
  abbrev J : Job
  J = job_of R

  abbrev lent_v : Verdict
  lent_v = lent_verdict R (length areas) (length items) (length work)

  fine : in_order (item_checks R (length areas) (length items) (length work)) ≡ Fine
  fine = told _ (total J) n E.lists.answer

  lent_fine : lent_v ≡ Fine
  lent_fine =
      first_left lent_v (items_verdict J (range_count areas))
      (sym (item_verdict R (length areas) (length items) (length work)) ∙ fine)

  passed : Passed R (length areas)
  passed =
      (lent R (length areas) (length items) work
      lent_fine).0.passed

  areas_written : areas' ≡ area_rows (item_count J) (item_area J) ++ drop (length (area_rows (item_count J) (item_area J))) areas
  areas_written = E.lists.in_areas ∙ ap (λ (x : Verdict). after (unless x (total J)) (λ _. area_rows (item_count J) (item_area J)) areas) fine

  items_written : items' ≡ item_rows (item_count J) (item_area J) ++ drop (length (item_rows (item_count J) (item_area J))) items
  items_written = E.lists.in_items ∙ ap (λ (x : Verdict). after (unless x (total J)) (λ _. item_rows (item_count J) (item_area J)) items) fine

  field_written : (i : ℕ) → i < item_count J → (f : ℕ) → f < 3 → field part_width items' i f ≡ get_or (item_row (ranges_of (tabulate i (item_area J))) (item_area J i)) f 0
  field_written i h f q =
      let wide : (j : ℕ) → j < item_count J → length (item_row (ranges_of (tabulate j (item_area J))) (item_area J j)) ≡ 3 = λ j _. row_long (ranges_of (tabulate j (item_area J))) (item_area J j) in
      let l = flat_length 3 (item_count J) (λ j. item_row (ranges_of (tabulate j (item_area J))) (item_area J j)) wide in
      ap (λ (k : List ℕ). field part_width k i f) items_written ∙ get_or-append (item_rows (item_count J) (item_area J)) _ 0 (part_width * i + f) (omega arith)
      ∙ flat_at 3 (item_count J) (λ j. item_row (ranges_of (tabulate j (item_area J))) (item_area J j)) wide i f h q

  -- whenever the areas are given: a point is in the part of the area list that item i's row names exactly when document 01's definition has it, and the row says absent exactly
  -- for an unfollowed local or a slot without area; two parts are the same list exactly when they have the same points
  pub given_by_paths : AreasTold J 3 0 items' areas'
  given_by_paths =
      rows_told J passed.checked passed.sound.some_block _ 3 0 items' areas' areas_written
      (λ i h. (field_written i h 0 (omega arith), field_written i h 1 (omega arith), field_written i h 2 (omega arith)))

  -- number 8 has no input: every range that is computed on the way to the areas is upright
  pub given_upright : UprightIn J
  given_upright = job_upright J passed.checked passed.sound.some_block
