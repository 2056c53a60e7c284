-- `spread::solve` meets its contract: the rows and the order, the rows lent, and then what arrives.
use native.Mathlib.Omega.{arith}
use Prim.Native.Nat.{◌≤◌}
use mathlib.Core.Path.{◌∙◌}
use lib.ListN.{length}
use Rattle.graph.proofs.Line.{blocks_length}
use Rattle.spread.proofs.Entries.{RankSums, rank_sums, fewer_rows, both, leaves_in, passes_in, laid, solved}
use Rattle.flow.proofs.Entries.{copied}
use Rattle.words.specs.Widths.{block_count, edge_count}
use Rattle.spread.proofs.solve.Goals as goal

pub prepare-order-requires : goal.prepare-order-requires
prepare-order-requires c =
    record { sound = (c.requires.sound.0, c.requires.sound.1); edges_in_bounds = fewer_rows _ _ _ _ c.requires.leaves_in_bounds }

pub overflow_add-rank : goal.overflow_add-rank
overflow_add-rank c =
    let some : 1 ≤ block_count c.args.blocks.now = omega (arith, c.requires.sound.0.some_block, blocks_length c.args.blocks.now) in
    let fit : RankSums (block_count c.args.blocks.now) (edge_count c.args.edges.now) (length c.args.leaves.now) c.prepare-order.result =
    rank_sums _ _ _ _ (length c.args.work.now) (some) c.prepare-order.ensures.at_is c.requires.leaves_in_bounds (omega (arith, c.well_formed)) in
    fit.rank

pub overflow_add-lent : goal.overflow_add-lent
overflow_add-lent c =
    let some : 1 ≤ block_count c.args.blocks.now = omega (arith, c.requires.sound.0.some_block, blocks_length c.args.blocks.now) in
    let fit : RankSums (block_count c.args.blocks.now) (edge_count c.args.edges.now) (length c.args.leaves.now) c.prepare-order.result =
    rank_sums _ _ _ _ (length c.args.work.now) (some) c.prepare-order.ensures.at_is c.requires.leaves_in_bounds (omega (arith, c.well_formed)) in
    fit.lent

pub overflow_add-pass : goal.overflow_add-pass
overflow_add-pass c =
    let some : 1 ≤ block_count c.args.blocks.now = omega (arith, c.requires.sound.0.some_block, blocks_length c.args.blocks.now) in
    let fit : RankSums (block_count c.args.blocks.now) (edge_count c.args.edges.now) (length c.args.leaves.now) c.prepare-order.result =
    rank_sums _ _ _ _ (length c.args.work.now) (some) c.prepare-order.ensures.at_is c.requires.leaves_in_bounds (omega (arith, c.well_formed)) in
    fit.pass

pub overflow_add-wait : goal.overflow_add-wait
overflow_add-wait c =
    let some : 1 ≤ block_count c.args.blocks.now = omega (arith, c.requires.sound.0.some_block, blocks_length c.args.blocks.now) in
    let fit : RankSums (block_count c.args.blocks.now) (edge_count c.args.edges.now) (length c.args.leaves.now) c.prepare-order.result =
    rank_sums _ _ _ _ (length c.args.work.now) (some) c.prepare-order.ensures.at_is c.requires.leaves_in_bounds (omega (arith, c.well_formed)) in
    fit.wait

pub copy_from-requires : goal.copy_from-requires
copy_from-requires c =
    let some : 1 ≤ block_count c.args.blocks.now = omega (arith, c.requires.sound.0.some_block, blocks_length c.args.blocks.now) in (
      leaves_in c.args.blocks.now c.args.edges.now c.args.leaves.now c.args.passes.now c.args.words _ _ c.requires.sound.2 (some) c.requires.leaves_len.0
          c.requires.leaves_len.1 c.requires.leaves_in_bounds c.prepare-order.ensures,
      copied _ _ (omega arith),
    )

pub copy_from-requires-2 : goal.copy_from-requires-2
copy_from-requires-2 c =
    let some : 1 ≤ block_count c.args.blocks.now = omega (arith, c.requires.sound.0.some_block, blocks_length c.args.blocks.now) in (
      passes_in c.args.blocks.now c.args.edges.now c.args.leaves.now c.args.passes.now c.args.words _ _ c.requires.sound.2 (some) c.requires.leaves_len.0
          c.requires.leaves_len.1 c.requires.leaves_in_bounds c.prepare-order.ensures _ c.copy_from.ensures.len,
      copied _ _
          (both _ _ _ c.requires.leaves_len.0 c.requires.leaves_len.1),
    )

pub overflow_add-e : goal.overflow_add-e
overflow_add-e c =
    let some : 1 ≤ block_count c.args.blocks.now = omega (arith, c.requires.sound.0.some_block, blocks_length c.args.blocks.now) in
    let fit : RankSums (block_count c.args.blocks.now) (edge_count c.args.edges.now) (length c.args.leaves.now) c.prepare-order.result =
    rank_sums _ _ _ _ (length c.args.work.now) (some) c.prepare-order.ensures.at_is c.requires.leaves_in_bounds (omega (arith, c.well_formed)) in
    fit.edges

pub spread-requires : goal.spread-requires
spread-requires c =
    let some : 1 ≤ block_count c.args.blocks.now = omega (arith, c.requires.sound.0.some_block, blocks_length c.args.blocks.now) in
    laid c.args.blocks.now c.args.edges.now c.args.leaves.now c.args.passes.now c.args.words _ _ c.requires.sound.2 (some) c.requires.leaves_len.0
    c.requires.leaves_len.1 c.requires.leaves_in_bounds c.prepare-order.ensures
    c.copy_from.ensures c.copy_from-2.ensures

pub overflow_add-result : goal.overflow_add-result
overflow_add-result c =
    let some : 1 ≤ block_count c.args.blocks.now = omega (arith, c.requires.sound.0.some_block, blocks_length c.args.blocks.now) in
    let fit : RankSums (block_count c.args.blocks.now) (edge_count c.args.edges.now) (length c.args.leaves.now) c.prepare-order.result =
    rank_sums _ _ _ _ (length c.args.work.now) (some) c.prepare-order.ensures.at_is c.requires.leaves_in_bounds (omega (arith, c.well_formed)) in
    fit.words

pub overflow_add-result-2 : goal.overflow_add-result-2
overflow_add-result-2 c =
    let some : 1 ≤ block_count c.args.blocks.now = omega (arith, c.requires.sound.0.some_block, blocks_length c.args.blocks.now) in
    let fit : RankSums (block_count c.args.blocks.now) (edge_count c.args.edges.now) (length c.args.leaves.now) c.prepare-order.result =
    rank_sums _ _ _ _ (length c.args.work.now) (some) c.prepare-order.ensures.at_is c.requires.leaves_in_bounds (omega (arith, c.well_formed)) in
    fit.answer

pub shape_of-work : goal.shape_of-work
shape_of-work c =
    c.spread.ensures.kept.len ∙ c.copy_from-2.ensures.len
    ∙ c.copy_from.ensures.len
    ∙ c.prepare-order.ensures.kept.len

pub returns : goal.returns
returns c =
    let some : 1 ≤ block_count c.args.blocks.now = omega (arith, c.requires.sound.0.some_block, blocks_length c.args.blocks.now) in
    solved c.args.blocks.now c.args.edges.now c.args.leaves.now c.args.passes.now c.args.words _ _ c.requires.sound.2 (some) c.requires.leaves_len.0
    c.requires.leaves_len.1 c.requires.leaves_in_bounds c.prepare-order.ensures
    c.copy_from.ensures c.copy_from-2.ensures
    c.spread.ensures
