-- `spread::settling` meets its contract: a refusal, or the order and a cleared work space.
use native.Mathlib.Omega.{arith}
use mathlib.Core.Path.{sym, ap, ◌∙◌}
use lib.ListN.{length}
use Rattle.spread.proofs.Entries.{RowSums, row_sums, no_rows, as_wide, order_inside, order_refused, small, order_given}
use Rattle.flow.proofs.Entries.{copied, cleared_length}
use Rattle.components.proofs.Entries.{Known, known}
use Rattle.words.specs.Widths.{block_count, edge_count}
use Rattle.spread.proofs.settling.Goals as goal
use Rattle.refusals.proofs.Laws.{handed_on}

pub returns-in_err-refusal : goal.returns-in_err-refusal
returns-in_err-refusal c =
    rw (handed_on c.from_residual.ensures.1)
    (order_refused c.args.blocks.now c.args.edges.now c.args.points c.args.order.now c.args.work.now _ _
    (sym c.refusal.ensures ∙ c.in_err-refusal.was))

pub prepare-at-requires : goal.prepare-at-requires
prepare-at-requires c =
    let k = known c.args.blocks.now c.args.edges.now c.args.points (length c.args.order.now) (length c.args.work.now)
    (sym c.refusal.ensures ∙ c.in_ok-refusal.was) in
    record { sound = (k.graph.sound, k.graph.edges_fine); edges_in_bounds = no_rows _ _ _ k.work_fits }

pub narrow-requires : goal.narrow-requires
narrow-requires c =
    let k = known c.args.blocks.now c.args.edges.now c.args.points (length c.args.order.now) (length c.args.work.now)
    (sym c.refusal.ensures ∙ c.in_ok-refusal.was) in
    (copied _ _ k.answer_fits, order_inside c.prepare-at.ensures (no_rows _ _ _ k.work_fits) k.graph.counts.some, small c.prepare-at.ensures k.graph.counts.few)

pub overflow_add-blocks : goal.overflow_add-blocks
overflow_add-blocks c =
    let fit : Known c.args.blocks.now c.args.edges.now c.args.points (length c.args.order.now) (length c.args.work.now) → RowSums (block_count c.args.blocks.now) (edge_count
    c.args.edges.now) = λ k. row_sums _ _ (length c.args.work.now) k.graph.counts.some (no_rows _ _ _ k.work_fits) (omega (arith, c.well_formed)) in
    let k = known c.args.blocks.now c.args.edges.now c.args.points (length c.args.order.now) (length c.args.work.now) (sym
    c.refusal.ensures
    ∙ c.in_ok-refusal.was) in
    (fit k).graph

pub overflow_mul-blocks : goal.overflow_mul-blocks
overflow_mul-blocks c =
    let fit : Known c.args.blocks.now c.args.edges.now c.args.points (length c.args.order.now) (length c.args.work.now) → RowSums (block_count c.args.blocks.now) (edge_count
    c.args.edges.now) = λ k. row_sums _ _ (length c.args.work.now) k.graph.counts.some (no_rows _ _ _ k.work_fits) (omega (arith, c.well_formed)) in
    let k = known c.args.blocks.now c.args.edges.now c.args.points (length c.args.order.now) (length c.args.work.now) (sym
    c.refusal.ensures
    ∙ c.in_ok-refusal.was) in
    (fit k).space

pub clear-requires : goal.clear-requires
clear-requires c =
    let k = known c.args.blocks.now c.args.edges.now c.args.points (length c.args.order.now) (length c.args.work.now) (sym
    c.refusal.ensures
    ∙ c.in_ok-refusal.was) in
    as_wide _ _ _ c.prepare-at.ensures.kept.len (no_rows _ _ _ k.work_fits)

pub shape_of-order : goal.shape_of-order
shape_of-order c = c.narrow.ensures.len

pub shape_of-work : goal.shape_of-work
shape_of-work c =
    let k = known c.args.blocks.now c.args.edges.now c.args.points (length c.args.order.now) (length c.args.work.now)
    (sym c.refusal.ensures ∙ c.in_ok-refusal.was) in
    ap length c.clear.ensures ∙ cleared_length _ _ (as_wide _ _ _ c.prepare-at.ensures.kept.len (no_rows _ _ _ k.work_fits)) ∙ c.prepare-at.ensures.kept.len

pub returns : goal.returns
returns c =
    order_given c.args.blocks.now c.args.edges.now c.args.points _ _ _ _ _ (sym c.refusal.ensures ∙ c.in_ok-refusal.was) (known c.args.blocks.now
    c.args.edges.now c.args.points (length c.args.order.now) (length c.args.work.now) (sym c.refusal.ensures ∙ c.in_ok-refusal.was)).graph.counts.some
    c.prepare-at.ensures c.narrow.ensures
    c.clear.ensures
