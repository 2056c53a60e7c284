-- Areas of locals lent by themselves: the index of each refusal fits its 32 bits, and so does the count of ranges.
use Prim.Native.Nat.{ℕ, ◌/◌, ◌^◌, ◌<◌}
use native.Mathlib.Omega.{arith}
use mathlib.Core.Path.{◌≡◌, sym, ◌∙◌}
use mathlib.Core.Bool.{◌||◌}
use mathlib.Core.List.{List}
use lib.ListN.{length}
use lib.Dec.{ltb}
use borrow.Author.Tests.{ltb-false}
use Rattle.refusals.specs.declared.Refusal.TheVariants.{Count, Inst, Piece, Space, List as ListWord}
use Rattle.refusals.proofs.Laws.{first_left, first_right, check_told}
use Rattle.words.specs.Rows.{tabulate}
use Rattle.words.specs.Widths.{mention_width, touch_width, part_width, range_width}
use Rattle.areas.specs.Job.{ranges_of}
use Rattle.area_layout.specs.Layout.{space_for}
use Rattle.area_checks.specs.Checks.{sizes_of, row_counts, lent_verdict}
use Rattle.insts.specs.Counts.{rows_verdict, most_verdict}
use Rattle.insts.proofs.CheckLaws.{rows_few}
use Rattle.area_measure.specs.Locals.{area_for}
use Rattle.lent_areas.specs.Areas.{graph_for}
use Rattle.area_entries.specs.Entry.{verdict_of}
use Rattle.area_entries.proofs.OrderLaws.{local_verdict}
use Rattle.codes.specs.Inner.{Fits}
use Rattle.codes.proofs.IndexLaws.{check_fits}
use Rattle.answer_bounds.proofs.Steps.{no_more, order_fit, next_fits, few_fits, rows_fits, most_fits}
use Rattle.answer_bounds.proofs.GraphBounds.{graph_fit}
use Rattle.refusals.specs.Verdicts.{Fine}

module _ (blocks edges : List ℕ) (points : ℕ) (kinds touches ends : List ℕ) (areas items work : ℕ) where
  abbrev ranges : ℕ
  ranges = ranges_of (tabulate (length kinds) (area_for (graph_for blocks edges) kinds touches ends))

  pub local_areas_fits : Fits (verdict_of blocks edges points kinds touches ends areas items work)
  local_areas_fits =
      order_fit
      (next_fits (most_fits 2048 (length kinds))
      (λ k. next_fits (rows_fits touch_width 65536 (length touches))
      (λ t. next_fits (rows_fits mention_width 65536 (length ends))
      (λ _. next_fits (rows_fits range_width 65536 areas)
      (λ _. next_fits (rows_fits part_width items items)
      (λ _. graph_fit blocks edges points _
      (next_fits (few_fits Inst _ (length kinds) (omega (arith, ltb-false 2048 (length kinds) (check_told Count (ltb 2048 (length kinds)) k))))
      (λ _. next_fits (few_fits Piece _ (length touches / touch_width) (omega (arith, rows_few touch_width 65536 (length touches) t)))
      (λ _. next_fits (check_fits Space (ltb work (space_for (sizes_of blocks edges (length kinds) (length touches) (length ends) areas)) || ltb (items / part_width) (length kinds)))
      (λ _. next_fits (check_fits ListWord (ltb (areas / range_width) ranges)) (λ _. no_more)))))))))))

  -- the area list has at most 65,536 ranges
  room_few : lent_verdict blocks edges points kinds touches (length ends) areas items work ≡ Fine → areas / range_width < 2 ^ 32
  unfolding lent_verdict row_counts
  room_few e =
      let a = first_left (row_counts (length kinds) (length touches) (length ends) areas items) _ e in
      let b = first_right (rows_verdict touch_width 65536 (length touches)) _ (first_right (most_verdict 2048 (length kinds)) _ a) in
      let c = first_left (rows_verdict range_width 65536 areas) _ (first_right (rows_verdict mention_width 65536 (length ends)) _ b) in
      omega (arith, rows_few range_width 65536 areas c)

  -- as many ranges as the area list holds
  pub local_areas_few : verdict_of blocks edges points kinds touches ends areas items work ≡ Fine → ranges < 2 ^ 32
  local_areas_few e =
      let f = sym (local_verdict blocks edges points kinds touches ends areas items work) ∙ e in
      let a = room_few (first_left (lent_verdict blocks edges points kinds touches (length ends) areas items work) _ f) in
      let b = first_right (lent_verdict blocks edges points kinds touches (length ends) areas items work) _ f in
      let c = ltb-false (areas / range_width) ranges (check_told ListWord (ltb (areas / range_width) ranges) b) in
      omega arith
