-- The plan that a call wrote, as the queries see it: each query of it is the definition's, none refuses it, and each item stands in the lowest fitting cell.
use Prim.Native.Nat.{ℕ, ◌+◌, ◌*◌, ◌≤◌, ◌<◌}
use native.Mathlib.Omega.{arith}
use mathlib.Core.Path.{◌≡◌, refl, ap, ◌∙◌}
use mathlib.Core.Option.{none}
use mathlib.Core.List.{List, ◌++◌}
use lib.IntN.{ℤ}
use lib.ListN.{length, take, drop, length-append, length-drop, get_or-append}
use borrow.Author.Tests.{ltb-false}
use Rattle.refusals.specs.declared.Refusal.TheVariants.{List as ListWord}
use Rattle.refusals.specs.Outcomes.{unless, after}
use Rattle.refusals.proofs.Laws.{first_left, first_right, check_told}
use Rattle.words.specs.Rows.{field, tabulate}
use Rattle.words.specs.Widths.{local_width, local_count, cell_width, item_width, item_cell, item_present, item_first, item_ranges, range_width, range_count, slot_count}
use Rattle.words.proofs.RowLaws.{length_tabulate, get_d_tabulate, length_records}
use Rattle.areas.specs.Job.{Job, item_count, item_area, ranges_of, items_verdict}
use Rattle.fitting.specs.Wants.{Want, want_at, order_of}
use Rattle.fitting.specs.Plan.{Plan}
use Rattle.fitting.specs.Layout.{rooms_in, layout_verdict, RowsLaid}
use Rattle.fitting.specs.Lowest.{PutLowest}
use Rattle.ranges.specs.Forms.{areas_of}
use Rattle.fitting.specs.Queries.{part_of, answered}
use Rattle.fitting.proofs.OrderLaws.{length_ordered}
use Rattle.fitting.proofs.PlanLaws.{facts}
use Rattle.fitting.proofs.PutLaws.{plan_few, put_lowest}
use Rattle.queries.specs.Seen.{PlanSeen}
use Rattle.queries.proofs.SeenLaws.{RowsHold, room_at, item_of, answered_seen, cut_held}
use Rattle.area_tables.specs.Tables.{area_rows}
use Rattle.area_tables.proofs.PartLaws.{areas_long}
use Rattle.wants.specs.Entry.{tallied, cell_rows, cell_offsets}
use Rattle.wants.proofs.ListLaws.{cells_long}
use Rattle.wants.proofs.SeenLaws.{front_is, told_tally, rows_laid}
use Rattle.soundness.specs.Demand.{want_of, wants_of, job_plan}
use Rattle.soundness.proofs.Demand.{job_order}
use Rattle.job_answers.specs.Answers.{item_rows, answer_verdict}
use Rattle.job_answers.proofs.SeenLaws.{items_long, cell_listed, area_listed, rows_held}
use Rattle.job_checks.specs.Job.{job_of}
use Rattle.job_space.specs.Space.{sizes_of, Small}
use Rattle.job.specs.Entry.{lent_verdict, verdict_of, SharedAs}
use Rattle.job.proofs.CheckLaws.{granted, whole_list}
use Rattle.job.proofs.Demand.{none_refused, lent_fine, cells_written}
use Rattle.job_space.specs.Rows.{Rows}
use Rattle.fitting.specs.declared.Terms.{Terms}
use Rattle.refusals.specs.Verdicts.{Fine, Verdict}
use Rattle.std.specs.Prelude.{Ok}
use Rattle.wants.specs.declared.Tally.{Tally}

module _ {R : Rows} {t : Terms} {cells items areas work cells' items' areas' work' : List ℕ} {offsets offsets' : List ℤ} {c p d : ℕ}
    (E : SharedAs R t cells items areas offsets work (Ok (record { cells = c; probes = p; depth = d })) cells' items' areas' offsets' work') where
  -- the job's records, its plan, and how many locals and items it has
  abbrev J : Job
  J = job_of R

  abbrev P : Plan
  P = job_plan J t.budget

  abbrev many : ℕ
  many = local_count R.locals + slot_count R.slots

  verdict_fine : verdict_of R t (length cells) (length items) (length areas) (length offsets) (length work) ≡ Fine
  verdict_fine = none_refused E

  answer_fine : answer_verdict (item_count J) (item_area J) (range_count areas) P ≡ Fine
  answer_fine = first_right (lent_verdict R t (length cells) (length items) (length areas) (length offsets) (length work)) (answer_verdict (item_count J) (item_area J) (range_count areas) P) verdict_fine

  small : Small (sizes_of R (length areas))
  small = (granted R t (length cells) (length items) (length areas) (length offsets) work (lent_fine E)).lent.passed.small

  count_is : item_count J ≡ many
  count_is = ap (λ (k : ℕ). k + slot_count R.slots) (length_records local_width (λ f. record { size = f 0; align = f 1 }) R.locals)

  -- all areas have room in the area list
  ranges_fit : ranges_of (tabulate (item_count J) (item_area J)) ≤ range_count areas
  ranges_fit =
      ltb-false (range_count areas) (ranges_of (tabulate (item_count J) (item_area J)))
      (check_told ListWord _ (first_left (items_verdict J (range_count areas)) (layout_verdict (rooms_in P)) answer_fine))

  -- ---- the lists, by their rows

  tally_is : record { cells = c; probes = p; depth = d } ≡ tallied P
  tally_is = told_tally (verdict_of R t (length cells) (length items) (length areas) (length offsets) (length work)) P (record { cells = c; probes = p; depth = d }) E.lists.answer

  used_is : c ≡ length P.cells
  used_is = ap (λ (x : Tally). x.cells) tally_is

  cells_front : take (cell_width * c) cells' ≡ cell_rows P
  cells_front = ap (take (cell_width * c)) (cells_written E) ∙ front_is (cell_rows P) cells (cell_width * c) (omega (arith, cells_long P, used_is))

  -- the offsets that the job wrote, by the cells and the depth that it wrote: each a multiple of its cell's alignment, no byte in two cells
  pub job_laid : RowsLaid c cells' offsets' d
  job_laid =
      rw (cells_written E, E.lists.in_offsets ∙ ap (λ (x : Verdict). after (unless x P) cell_offsets offsets) verdict_fine, used_is, ap (λ (x : Tally). x.depth) tally_is)
      (rows_laid P (first_right (items_verdict J (range_count areas)) (layout_verdict (rooms_in P)) answer_fine) _ _)

  items_whole : items' ≡ item_rows (item_count J) (item_area J) P ++ drop (length (item_rows (item_count J) (item_area J) P)) items
  items_whole = E.lists.in_items ∙ ap (λ (x : Verdict). after (unless x P) (item_rows (item_count J) (item_area J)) items) verdict_fine

  items_front : take (item_width * many) items' ≡ item_rows (item_count J) (item_area J) P
  items_front = ap (take (item_width * many)) items_whole ∙ front_is (item_rows (item_count J) (item_area J) P) items (item_width * many) (omega (arith, items_long (item_area J) (item_count J) P, count_is))

  abbrev behind : List ℕ
  behind = drop (length (area_rows (item_count J) (item_area J))) areas

  areas_whole : areas' ≡ area_rows (item_count J) (item_area J) ++ behind
  areas_whole = E.lists.in_areas ∙ ap (λ (x : Verdict). after (unless x P) (λ _. area_rows (item_count J) (item_area J)) areas) verdict_fine

  areas_kept : length (area_rows (item_count J) (item_area J) ++ behind) ≡ length areas
  areas_kept =
      omega (arith, length-append (area_rows (item_count J) (item_area J)) behind, length-drop (length (area_rows (item_count J) (item_area J))) areas, areas_long (item_count J) (item_area J), ranges_fit)

  area_of_lem : (i : ℕ) → i < item_count J → (want_at (wants_of J) i).area ≡ item_area J i
  area_of_lem i h = ap (λ (w : Want). w.area) (get_d_tabulate (item_count J) (want_of J) i (record { size = 0; align = 0; area = none }) h)

  -- the rows that stand there hold the plan
  pub held : RowsHold (take (cell_width * c) cells') (take (item_width * many) items') areas' (local_count R.locals) (length P.cells) (item_count J) (room_at P) (item_of (wants_of J) P)
  held =
      let w = whole_list R t (length cells) (length items) (length areas) (length offsets) work (lent_fine E) in
      rw (cells_front, items_front, areas_whole)
      (rows_held (item_area J) (item_count J) P (wants_of J) area_of_lem
      (facts (wants_of J) t.budget (item_count J) (order_of (wants_of J)) (job_order J)).known
      (omega (arith, plan_few (wants_of J) t.budget (order_of (wants_of J)), length_ordered (wants_of J) (length (wants_of J)), length_tabulate (item_count J) (want_of J)))
      (local_count R.locals) (omega (arith, count_is)) small.few_locals (omega (arith, count_is, small.few_slots)) behind
      (omega (arith, areas_kept)) (omega (arith, areas_kept, small.few_ranges)))

  -- ---- what the queries say

  -- the plan that the job wrote: each query of it is the definition's of the job's plan, and none refuses it
  pub job_seen : PlanSeen (answered (wants_of J) (local_count R.locals) P) (local_count R.locals) (take (cell_width * c) cells') (take (item_width * many) items') areas'
  job_seen = answered_seen (wants_of J) P (length_tabulate (item_count J) (want_of J)) held

  -- and with the area list cut behind the last part
  pub job_seen_cut : (k : ℕ) → k ≤ range_count areas'
      → ((i : ℕ) → i < item_count J → (item_present (take (item_width * many) items') i ≡ 0 → ⊥) → item_first (take (item_width * many) items') i + item_ranges (take (item_width * many) items') i ≤ k)
      → PlanSeen (answered (wants_of J) (local_count R.locals) P) (local_count R.locals) (take (cell_width * c) cells') (take (item_width * many) items') (take (range_width * k) areas')
  job_seen_cut k h l = answered_seen (wants_of J) P (length_tabulate (item_count J) (want_of J)) (cut_held held k h l)

  module _ (i : ℕ) (h : i < item_count J) where
    listed_at : (f : ℕ) → f < 4 → field item_width items' i f ≡ field item_width (item_rows (item_count J) (item_area J) P) i f
    listed_at f k =
        ap (λ (l : List ℕ). field item_width l i f) items_whole
        ∙ get_or-append (item_rows (item_count J) (item_area J) P) _ 0 (item_width * i + f) (omega (arith, items_long (item_area J) (item_count J) P))

    -- the part of the area list that item i's row names is its area: absent exactly where it has none
    pub job_part : part_of (areas_of areas') (item_present items' i) (item_first items' i) (item_ranges items' i) ≡ item_area J i
    job_part =
        ap (λ (l : List ℕ). part_of (areas_of l) (item_present items' i) (item_first items' i) (item_ranges items' i)) areas_whole
        ∙ ap (λ (k : ℕ). part_of (areas_of (area_rows (item_count J) (item_area J) ++ behind)) k (item_first items' i) (item_ranges items' i)) (listed_at 1 (omega arith))
        ∙ ap (λ (k : ℕ). part_of (areas_of (area_rows (item_count J) (item_area J) ++ behind)) (item_present (item_rows (item_count J) (item_area J) P) i) k (item_ranges items' i)) (listed_at 2 (omega arith))
        ∙ ap (λ (k : ℕ). part_of (areas_of (area_rows (item_count J) (item_area J) ++ behind)) (item_present (item_rows (item_count J) (item_area J) P) i) (item_first (item_rows (item_count J) (item_area J) P) i) k) (listed_at 3 (omega arith))
        ∙ area_listed (item_area J) (item_count J) P i h behind (item_area J i) refl

  -- each item's row names the lowest fitting cell of those that there were when it was put in
  pub job_lowest : PutLowest (wants_of J) t.budget (order_of (wants_of J)) (λ i. item_cell items' i)
  job_lowest =
      put_lowest (wants_of J) t.budget (item_count J) (order_of (wants_of J)) (job_order J) (λ i. item_cell items' i)
      (λ i h. ap (λ (l : List ℕ). item_cell l i) items_whole ∙ cell_listed (item_area J) (item_count J) P i h _)
