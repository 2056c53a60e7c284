-- Fitting alone and the queries of a lent plan: the index of each refusal fits its 32 bits, and so does each count.
use Prim.Native.Nat.{ℕ, suc, ◌+◌, ◌-◌, ◌^◌, ◌≤◌, ◌<◌}
use native.Mathlib.Omega.{arith}
use mathlib.Core.Path.{◌≡◌}
use mathlib.Core.Bool.{Bool, true, false, cond, not, ◌||◌}
use mathlib.Core.List.{List, [], ◌∷◌}
use lib.ListN.{length, length-drop}
use lib.Dec.{ltb}
use borrow.Author.Tests.{ltb-false}
use Rattle.refusals.specs.declared.Refusal.TheVariants.{Count, Space, Want as WantWord, Align, Depth}
use Rattle.refusals.specs.Verdicts.{in_order, check, Fine}
use Rattle.refusals.proofs.Laws.{check_told, first_left}
use Rattle.words.specs.Rows.{whole_rows}
use Rattle.words.specs.Widths.{local_count, cell_width, cell_count, item_width, item_row_count, range_count, want_count, slot_count}
use Rattle.words.proofs.Bools.{or_neither}
use Rattle.words.proofs.RowLaws.{length_tabulate}
use Rattle.ranges.specs.Forms.{areas_of}
use Rattle.fitting.specs.Wants.{Want, order_of}
use Rattle.fitting.specs.Plan.{plan_of}
use Rattle.fitting.specs.Layout.{rooms_in, layout_verdict, laid_verdict}
use Rattle.fitting.proofs.OrderLaws.{length_ordered}
use Rattle.fitting.proofs.PutLaws.{plan_few}
use Rattle.wants.specs.Entry.{wants_of, plan_for}
use Rattle.wants.proofs.ListLaws.{rooms_count}
use Rattle.wants.proofs.SeenLaws.{wants_long}
use Rattle.fitting.specs.Queries.{Item, Slots, items_of, slots_of, crowd, crowded, crowded_from}
use Rattle.want_checks.specs.Checks.{bad_want, bad_space, bad_count as wantCounts}
use Rattle.want_checks.proofs.CheckLaws.{count_fine}
use Rattle.want_codes.specs.Plans.{few_counts, coded_verdict}
use Rattle.query_checks.specs.Checks.{bad_count, no_cell, surplus, bad_areas, bad_item, plan_verdict, crowded_verdict, told_verdict}
use Rattle.capping.specs.Cap.{cap_verdict}
use Rattle.apart.specs.Apart.{apart_count, apart_space, apart_verdict}
use Rattle.codes.specs.Inner.{Fits}
use Rattle.codes.proofs.IndexLaws.{check_fits, named_fits, first_fits}
use Rattle.answer_bounds.proofs.Steps.{no_more, order_fit, next_fits, few_fits}

-- the layout of a plan of at most 4,096 items
pub layout_fits : (ws : List Want) (budget : ℕ) → length ws ≤ 4096 → Fits (layout_verdict (rooms_in (plan_of ws budget (order_of ws))))
unfolding layout_verdict
layout_fits ws budget h =
    let n : length (rooms_in (plan_of ws budget (order_of ws))) ≤ 4096 =
    omega (arith, rooms_count (plan_of ws budget (order_of ws)), plan_few ws budget (order_of ws), length_ordered ws (length ws)) in
    order_fit (next_fits (few_fits Align _ _ (omega arith)) (λ _. next_fits (few_fits Depth _ _ (omega arith)) (λ _. no_more)))

-- fitting alone: at most 4,096 wants
module _ (wants areas : List ℕ) (locals budget cells items offsets counts work : ℕ) where
  few_wants : wantCounts wants areas locals budget cells items ≡ false → want_count wants ≤ 4096
  few_wants e = (count_fine wants areas locals budget cells items e).0

  lent_fits : Fits (coded_verdict wants areas locals budget cells items offsets counts work)
  lent_fits =
      order_fit
      (next_fits (check_fits Count (wantCounts wants areas locals budget cells items))
      (λ e. next_fits (check_fits Space (bad_space wants areas cells items offsets work || few_counts counts))
      (λ _. next_fits
      (few_fits WantWord (bad_want (areas_of areas) wants) (want_count wants) (omega (arith, few_wants (check_told Count (wantCounts wants areas locals budget cells items) e))))
      (λ _. no_more))))

  lent_few : coded_verdict wants areas locals budget cells items offsets counts work ≡ Fine → want_count wants ≤ 4096
  unfolding in_order
  lent_few e = few_wants (check_told Count (wantCounts wants areas locals budget cells items) (first_left (check Count (wantCounts wants areas locals budget cells items)) _ e))

  pub wants_fit : Fits (laid_verdict (coded_verdict wants areas locals budget cells items offsets counts work) (plan_for wants areas budget))
  wants_fit =
      first_fits _ _ lent_fits
      (λ e. layout_fits (wants_of (areas_of areas) wants) budget (omega (arith, wants_long wants areas locals budget, lent_few e)))

-- ---- queries: at most 4,096 items

few_items : (cells items : List ℕ) (locals : ℕ) → bad_count cells items locals ≡ false → item_row_count items ≤ 4096
few_items cells items locals c =
    let (a, b) = or_neither (not (whole_rows cell_width cells)) _ c in
    let (d, f) = or_neither (not (whole_rows item_width items)) _ b in
    let (g, h) = or_neither (ltb (item_row_count items) locals) _ f in
    let (k, l) = or_neither (ltb 2048 locals) _ h in
    omega (arith, ltb-false (item_row_count items) locals g, ltb-false 2048 locals k, ltb-false 2048 (item_row_count items - locals) l)

module _ (cells items : List ℕ) (locals : ℕ) where
  surplus_fits : item_row_count items ≤ 4096 → Fits (surplus cells items)
  surplus_fits h = named_fits WantWord (ltb (item_row_count items) (cell_count cells)) (item_row_count items) (omega arith)

  -- `local`, `slot` and `saved`
  pub plan_fits : Fits (plan_verdict cells items locals)
  unfolding plan_verdict
  plan_fits =
      order_fit
      (next_fits (check_fits Count (bad_count cells items locals))
      (λ e. let n = few_items cells items locals (check_told Count (bad_count cells items locals) e) in
      next_fits (few_fits WantWord (no_cell cells items) (item_row_count items) (omega arith)) (λ _. next_fits (surplus_fits n) (λ _. no_more))))

  -- `shared`, its part told in a list
  pub told_fits : (areas : List ℕ) (room : ℕ) → Fits (told_verdict cells items areas locals room)
  unfolding told_verdict
  told_fits areas room =
      order_fit
      (next_fits (check_fits Count (bad_count cells items locals || bad_areas areas))
      (λ e. let n = few_items cells items locals (or_neither (bad_count cells items locals) (bad_areas areas) (check_told Count (bad_count cells items locals || bad_areas areas) e)).0 in
      next_fits (check_fits Space (ltb room 2))
      (λ _. next_fits (few_fits WantWord (bad_item cells items (range_count areas)) (item_row_count items) (omega arith)) (λ _. next_fits (surplus_fits n) (λ _. no_more)))))

  pub crowded_fits : (room : ℕ) → Fits (crowded_verdict cells items locals room)
  unfolding crowded_verdict
  crowded_fits room =
      order_fit
      (next_fits (check_fits Count (bad_count cells items locals))
      (λ e. let n = few_items cells items locals (check_told Count (bad_count cells items locals) e) in
      next_fits (check_fits Space (ltb room (item_row_count items - locals)))
      (λ _. next_fits (few_fits WantWord (no_cell cells items) (item_row_count items) (omega arith)) (λ _. next_fits (surplus_fits n) (λ _. no_more)))))

  few_slots : (room : ℕ) → crowded_verdict cells items locals room ≡ Fine → item_row_count items ≤ 4096
  unfolding crowded_verdict in_order
  few_slots room e = few_items cells items locals (check_told Count (bad_count cells items locals) (first_left (check Count (bad_count cells items locals)) _ e))

crowded_within : (S : Slots) (n : ℕ) (is : List Item) → length (crowded_from S n is) ≤ length is
unfolding crowded_from
crowded_within S n [] = omega arith
crowded_within S n (i ∷ is) = go (crowd S i.cell) (crowded_within S (suc n) is)
  where
    go : (t : Bool) → length (crowded_from S (suc n) is) ≤ length is → length (cond t (n ∷ crowded_from S (suc n) is) (crowded_from S (suc n) is)) ≤ suc (length is)
    go true h = omega arith
    go false h = omega arith

-- no more than there are slots
pub crowded_few : (cells items : List ℕ) (locals room : ℕ) → crowded_verdict cells items locals room ≡ Fine → length (crowded (slots_of locals cells items [])) < 2 ^ 32
crowded_few cells items locals room e =
    let d : length (items_of (areas_of []) items) ≡ item_row_count items = length_tabulate (item_row_count items) _ in
    omega (arith, d, few_slots cells items locals room e, crowded_within (slots_of locals cells items []) 0 (slots_of locals cells items []).slots, length-drop locals (items_of (areas_of []) items))

-- ---- `cap` and `apart`: every index is 0

pub cap_fits : (cells : List ℕ) (count : ℕ) → Fits (cap_verdict cells count)
cap_fits cells count = check_fits Count (not (whole_rows cell_width cells) || (ltb (cell_count cells) count || ltb 4096 count))

pub apart_fits : (locals slots : List ℕ) (cells items : ℕ) → Fits (apart_verdict locals slots cells items)
unfolding apart_verdict
apart_fits locals slots cells items =
    order_fit
    (next_fits (check_fits Count (apart_count locals slots cells items)) (λ _. next_fits (check_fits Space (apart_space (local_count locals + slot_count slots) cells items)) (λ _. no_more)))
