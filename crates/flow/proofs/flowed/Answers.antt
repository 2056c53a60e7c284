-- `flow::flowed` meets its contract: a refusal, or the rows and a cleared work space.
use native.Mathlib.Omega.{arith}
use mathlib.Core.Path.{sym, ap, ◌∙◌}
use lib.ListN.{length}
use Rattle.flow.proofs.Entries.{Sums, sums, Known, known, copied, cleared_length, inside, as_wide, refused_is, given_is}
use Rattle.words.specs.Widths.{block_count, edge_count}
use Rattle.flow.proofs.flowed.Goals as goal
use Rattle.refusals.proofs.Laws.{handed_on}

pub returns-in_err-refusal : goal.returns-in_err-refusal
returns-in_err-refusal c =
    rw (handed_on c.from_residual.ensures.1)
    (refused_is c.args.over c.args.blocks.now c.args.edges.now c.args.points c.args.touched.now c.args.words c.args.out.now c.args.work.now _ _
    (sym c.refusal.ensures ∙ c.in_err-refusal.was))

pub solve-at-requires : goal.solve-at-requires
solve-at-requires c =
    let k = known c.args.blocks.now c.args.edges.now c.args.points (length c.args.touched.now) c.args.words (length c.args.out.now)
    (length c.args.work.now) (sym c.refusal.ensures ∙ c.in_ok-refusal.was) in
    record { sound = (k.graph.sound, k.graph.edges_fine, k.rows); touched_in_bounds = k.work_fits }

pub copy_from-requires : goal.copy_from-requires
copy_from-requires c =
    let k = known c.args.blocks.now c.args.edges.now c.args.points (length c.args.touched.now) c.args.words (length c.args.out.now)
    (length c.args.work.now)
    (sym c.refusal.ensures ∙ c.in_ok-refusal.was) in
    (copied _ _ k.answer_fits, inside c.solve-at.ensures k.work_fits)

pub overflow_add-blocks : goal.overflow_add-blocks
overflow_add-blocks c =
    let fit : Known c.args.blocks.now c.args.edges.now c.args.points (length c.args.touched.now) c.args.words (length c.args.out.now) (length c.args.work.now) → Sums (block_count
    c.args.blocks.now) (edge_count c.args.edges.now) (length c.args.touched.now) = λ k. sums _ _ _ (length c.args.work.now) k.graph.counts.some k.work_fits (omega (arith, c.well_formed)) in
    let k = known c.args.blocks.now c.args.edges.now c.args.points (length c.args.touched.now) c.args.words (length c.args.out.now) (length
    c.args.work.now) (sym c.refusal.ensures
    ∙ c.in_ok-refusal.was) in
    (fit k).graph

pub overflow_add-blocks-2 : goal.overflow_add-blocks-2
overflow_add-blocks-2 c =
    let fit : Known c.args.blocks.now c.args.edges.now c.args.points (length c.args.touched.now) c.args.words (length c.args.out.now) (length c.args.work.now) → Sums (block_count
    c.args.blocks.now) (edge_count c.args.edges.now) (length c.args.touched.now) = λ k. sums _ _ _ (length c.args.work.now) k.graph.counts.some k.work_fits (omega (arith, c.well_formed)) in
    let k = known c.args.blocks.now c.args.edges.now c.args.points (length c.args.touched.now) c.args.words (length c.args.out.now) (length
    c.args.work.now) (sym c.refusal.ensures
    ∙ c.in_ok-refusal.was) in
    (fit k).all

pub overflow_mul-blocks : goal.overflow_mul-blocks
overflow_mul-blocks c =
    let fit : Known c.args.blocks.now c.args.edges.now c.args.points (length c.args.touched.now) c.args.words (length c.args.out.now) (length c.args.work.now) → Sums (block_count
    c.args.blocks.now) (edge_count c.args.edges.now) (length c.args.touched.now) = λ k. sums _ _ _ (length c.args.work.now) k.graph.counts.some k.work_fits (omega (arith, c.well_formed)) in
    let k = known c.args.blocks.now c.args.edges.now c.args.points (length c.args.touched.now) c.args.words (length c.args.out.now) (length
    c.args.work.now) (sym c.refusal.ensures
    ∙ c.in_ok-refusal.was) in
    (fit k).space

pub clear-requires : goal.clear-requires
clear-requires c =
    let k = known c.args.blocks.now c.args.edges.now c.args.points (length c.args.touched.now) c.args.words (length c.args.out.now) (length
    c.args.work.now) (sym c.refusal.ensures
    ∙ c.in_ok-refusal.was) in
    as_wide c.solve-at.ensures k.work_fits

pub shape_of-out : goal.shape_of-out
shape_of-out c = c.copy_from.ensures.len

pub shape_of-work : goal.shape_of-work
shape_of-work c =
    let k = known c.args.blocks.now c.args.edges.now c.args.points (length c.args.touched.now) c.args.words (length c.args.out.now)
    (length c.args.work.now) (sym c.refusal.ensures ∙ c.in_ok-refusal.was) in
    ap length c.clear.ensures ∙ cleared_length _ _ (as_wide c.solve-at.ensures k.work_fits) ∙ c.solve-at.ensures.kept.len

pub returns : goal.returns
returns c =
    given_is c.args.over c.args.blocks.now c.args.edges.now c.args.points c.args.touched.now c.args.words _ _ _ _ _ (sym
    c.refusal.ensures
    ∙ c.in_ok-refusal.was)
    c.solve-at.ensures (λ i. (c.type_inv.out i).fits)
    c.copy_from.ensures c.clear.ensures
