-- The whole job and the areas of its items: the index of each refusal fits its 32 bits, and so does the count of ranges.
use Prim.Native.Nat.{ℕ, ◌+◌, ◌/◌, ◌^◌, ◌≤◌, ◌<◌}
use native.Mathlib.Omega.{arith}
use mathlib.Core.Path.{◌≡◌, sym, ◌∙◌}
use mathlib.Core.Bool.{◌||◌}
use mathlib.Core.List.{List, ◌++◌}
use lib.ListN.{length}
use lib.Dec.{ltb}
use borrow.Author.Tests.{ltb-false}
use Rattle.refusals.specs.declared.Refusal.TheVariants.{Count, Space, List as ListWord}
use Rattle.refusals.specs.Verdicts.{in_order, check, Fine, Verdict}
use Rattle.refusals.proofs.Laws.{first_left, first_right, check_told}
use Rattle.words.specs.Rows.{tabulate}
use Rattle.words.specs.Widths.{edge_width, mention_width, local_width, local_count, address_count, end_count, piece_width, piece_count, assigned_width, assigned_count, move_width, move_count, cell_width, item_width, part_width, range_width}
use Rattle.words.proofs.RowLaws.{length_tabulate, length_records}
use Rattle.graph.specs.Line.{blocks_of, jumps_of}
use Rattle.graph.proofs.Line.{blocks_length, jumps_length}
use Rattle.carrying.specs.Insts.{insts_of}
use Rattle.carrying.specs.Carried.{mentions_of, pieces_of}
use Rattle.insts.specs.Counts.{rows_verdict}
use Rattle.insts.proofs.DealtLaws.{insts_length}
use Rattle.areas.specs.Slots.{moves_of, assigned_of}
use Rattle.areas.specs.Job.{Job, checks, locals_of, ranges_of, item_count, item_area}
use Rattle.job_space.specs.declared.Sizes.{Sizes}
use Rattle.job_space.specs.Space.{sizes_of, space_of, bad_shape}
use Rattle.job_checks.specs.Job.{job_of, other_counts, count_verdict}
use Rattle.job_checks.proofs.CheckLaws.{told, lent_counted}
use Rattle.soundness.specs.Demand.{want_of, wants_of}
use Rattle.job.specs.Entry.{lent_verdict}
use Rattle.job.specs.Inner.{space_verdict}
use Rattle.item_areas.specs.Entry.{item_checks, space_verdict as areasSpace, lent_verdict as areasLent}
use Rattle.item_areas.proofs.OrderLaws.{item_verdict}
use Rattle.job_codes.specs.Job.{coded_verdict}
use Rattle.want_codes.specs.Plans.{few_counts}
use Rattle.codes.specs.Inner.{Fits}
use Rattle.codes.proofs.IndexLaws.{check_fits, first_fits}
use Rattle.answer_bounds.proofs.PlanBounds.{layout_fits}
use Rattle.answer_bounds.proofs.Steps.{AllFit, no_more, order_fit, next_fits, rows_fits, most_fits, carry_counts_fit, line_fits, edge_fits, inst_fits, crossing_fits, address_fits, end_fits, move_fits, piece_fits, assigned_fits}
use Rattle.job_space.specs.Rows.{Rows}
use Rattle.fitting.specs.declared.Terms.{Terms}

module _ (R : Rows) (areas : ℕ) where
  counts_fit : Fits (count_verdict R areas)
  unfolding count_verdict other_counts
  counts_fit =
      first_fits _ _ (carry_counts_fit R.v R.blocks R.insts R.operands R.crossings R.locals R.addresses R.ends)
      (λ _. first_fits _ _ (rows_fits edge_width 16384 (length R.edges))
      (λ _. first_fits _ _ (most_fits 2048 (length R.slots))
      (λ _. first_fits _ _ (rows_fits piece_width 65536 (length R.pieces))
      (λ _. first_fits _ _ (rows_fits assigned_width 65536 (length R.assigned))
      (λ _. first_fits _ _ (rows_fits move_width 65536 (length R.moves))
      (λ _. rows_fits range_width 65536 areas))))))

  -- numbers 2 to 6, after number 1 passed, and what is checked behind them
  checks_fit : (rest : List Verdict) → count_verdict R areas ≡ Fine → AllFit rest → AllFit (checks (job_of R) ++ rest)
  checks_fit rest e h =
      let z = (told R areas e).small in
      let a : length (mentions_of R.addresses) ≡ address_count R.addresses = length_records mention_width (λ f. record { inst = f 0; local = f 1 }) R.addresses in
      let b : length (mentions_of R.ends) ≡ end_count R.ends = length_records mention_width (λ f. record { inst = f 0; local = f 1 }) R.ends in
      let m : length (moves_of R.moves) ≡ move_count R.moves = length_records move_width (λ f. record { kind = f 0; number = f 1; to = f 2; from = f 3 }) R.moves in
      let p : length (pieces_of R.pieces) ≡ piece_count R.pieces = length_records piece_width (λ f. record { register = f 0; start = f 1; end = f 2 }) R.pieces in
      let s : length (assigned_of R.assigned) ≡ assigned_count R.assigned = length_records assigned_width (λ f. record { register = f 0; slot = f 1 }) R.assigned in
      next_fits (line_fits (blocks_of R.blocks) R.points (omega (arith, z.few_blocks, blocks_length R.blocks)))
      (λ _. next_fits (edge_fits (blocks_of R.blocks) (jumps_of R.edges) (omega (arith, z.few_edges, jumps_length R.edges)))
      (λ _. next_fits (inst_fits (blocks_of R.blocks) R.v (insts_of R.insts R.operands) (omega (arith, z.few_insts, insts_length R.insts R.operands)))
      (λ _. next_fits (crossing_fits R.v R.crossings z.few_crossings)
      (λ _. next_fits (address_fits (insts_of R.insts R.operands) (mentions_of R.addresses) (omega (arith, z.few_addresses, a)))
      (λ _. next_fits (end_fits (insts_of R.insts R.operands) (mentions_of R.ends) (omega (arith, z.few_ends, b)))
      (λ _. next_fits (move_fits (blocks_of R.blocks) (insts_of R.insts R.operands) (moves_of R.moves) (omega (arith, z.few_moves, m)))
      (λ _. next_fits (piece_fits (blocks_of R.blocks) R.v (pieces_of R.pieces) (omega (arith, z.few_pieces, p)))
      (λ _. next_fits (assigned_fits R.v (assigned_of R.assigned) (omega (arith, z.few_assigned, s)))
      (λ _. h)))))))))

  abbrev own : Job
  own = job_of R

  abbrev z : Sizes
  z = sizes_of R areas

  -- `item_areas`
  pub item_areas_fits : (items work : ℕ) → Fits (in_order (item_checks R areas items work))
  item_areas_fits items work =
      order_fit
      (next_fits (rows_fits part_width items items)
      (λ _. next_fits counts_fit
      (λ e. checks_fit _ e
      (next_fits (check_fits Space (ltb work (space_of z) || ltb (items / part_width) (z.locals + z.slots)))
      (λ _. next_fits (check_fits ListWord (ltb (areas / range_width) (ranges_of (tabulate (item_count own) (item_area own))))) (λ _. no_more))))))

  -- as many ranges as the area list holds, which has at most 65,536
  lent_ranges : (items work : ℕ) → areasLent R areas items work ≡ Fine → areas / range_width ≤ 65536
  unfolding areasLent
  lent_ranges items work e = (told R areas (lent_counted R areas (rows_verdict part_width items items) (areasSpace (sizes_of R areas) items work) e)).small.few_ranges

  pub item_areas_few : (items work : ℕ) → in_order (item_checks R areas items work) ≡ Fine → ranges_of (tabulate (item_count own) (item_area own)) < 2 ^ 32
  item_areas_few items work e =
      let f = sym (item_verdict R areas items work) ∙ e in
      let a = lent_ranges items work (first_left (areasLent R areas items work) _ f) in
      let b = ltb-false (areas / range_width) (ranges_of (tabulate (item_count own) (item_area own))) (check_told ListWord _ (first_right (areasLent R areas items work) _ f)) in
      omega arith

-- the whole job
module _ (R : Rows) (t : Terms) (cells items areas offsets counts work : ℕ) where
  abbrev y : Sizes
  y = sizes_of R areas

  lent_fits : Fits (lent_verdict R t cells items areas offsets work)
  unfolding lent_verdict
  lent_fits =
      order_fit
      (next_fits (check_fits Count (bad_shape t cells items))
      (λ _. next_fits (counts_fit R areas)
      (λ e. checks_fit R areas _ e
      (next_fits (check_fits Space (ltb work (space_of y) || (ltb (cells / cell_width) (y.locals + y.slots) || (ltb (items / item_width) (y.locals + y.slots) || ltb offsets (y.locals + y.slots))))) (λ _. no_more)))))

  lent_items : lent_verdict R t cells items areas offsets work ≡ Fine → item_count (job_of R) ≤ 4096
  unfolding lent_verdict
  lent_items e =
      let s = (told R areas (lent_counted R areas (check Count (bad_shape t cells items)) (space_verdict y cells items offsets work) e)).small in
      let l : length (locals_of R.locals) ≡ local_count R.locals = length_records local_width (λ f. record { size = f 0; align = f 1 }) R.locals in
      omega (arith, s.few_locals, s.few_slots)

  pub job_fits : Fits (coded_verdict R t cells items areas offsets counts work)
  job_fits =
      first_fits _ _ (first_fits _ _ lent_fits (λ _. check_fits Space (few_counts counts)))
      (λ e. first_fits _ _ (check_fits ListWord (ltb (areas / range_width) (ranges_of (tabulate (item_count (job_of R)) (item_area (job_of R))))))
      (λ _. layout_fits (wants_of (job_of R)) t.budget (omega (arith, length_tabulate (item_count (job_of R)) (want_of (job_of R)), lent_items (first_left (lent_verdict R t cells items areas offsets work) _ e)))))
