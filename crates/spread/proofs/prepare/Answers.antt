-- `spread::prepare` meets its contract: the rows, and the order.
use native.Mathlib.Omega.{arith}
use Prim.Native.Nat.{◌≤◌}
use mathlib.Core.Path.{◌∙◌}
use lib.ListN.{length}
use Rattle.graph.proofs.Line.{blocks_length}
use Rattle.spread.proofs.Entries.{RowSums, row_sums, walkable, prepared}
use Rattle.words.specs.Widths.{block_count, edge_count}
use Rattle.spread.proofs.prepare.Goals as goal

pub overflow_add-at : goal.overflow_add-at
overflow_add-at c =
    let some : 1 ≤ block_count c.args.blocks.now = omega (arith, c.requires.sound.0.some_block, blocks_length c.args.blocks.now) in
    let fit : RowSums (block_count c.args.blocks.now) (edge_count c.args.edges.now) = row_sums _ _ (length c.args.work.now) (some) c.requires.edges_in_bounds (omega (arith, c.well_formed)) in
    (fit).edges

pub overflow_add-base : goal.overflow_add-base
overflow_add-base c =
    let some : 1 ≤ block_count c.args.blocks.now = omega (arith, c.requires.sound.0.some_block, blocks_length c.args.blocks.now) in
    let fit : RowSums (block_count c.args.blocks.now) (edge_count c.args.edges.now) = row_sums _ _ (length c.args.work.now) (some) c.requires.edges_in_bounds (omega (arith, c.well_formed)) in
    (fit).one

pub overflow_add-base-2 : goal.overflow_add-base-2
overflow_add-base-2 c =
    let some : 1 ≤ block_count c.args.blocks.now = omega (arith, c.requires.sound.0.some_block, blocks_length c.args.blocks.now) in
    let fit : RowSums (block_count c.args.blocks.now) (edge_count c.args.edges.now) = row_sums _ _ (length c.args.work.now) (some) c.requires.edges_in_bounds (omega (arith, c.well_formed)) in
    (fit).row

pub overflow_add-base-3 : goal.overflow_add-base-3
overflow_add-base-3 c =
    let some : 1 ≤ block_count c.args.blocks.now = omega (arith, c.requires.sound.0.some_block, blocks_length c.args.blocks.now) in
    let fit : RowSums (block_count c.args.blocks.now) (edge_count c.args.edges.now) = row_sums _ _ (length c.args.work.now) (some) c.requires.edges_in_bounds (omega (arith, c.well_formed)) in
    (fit).base

pub successors-requires : goal.successors-requires
successors-requires c =
    let some : 1 ≤ block_count c.args.blocks.now = omega (arith, c.requires.sound.0.some_block, blocks_length c.args.blocks.now) in
    record { sound = (c.requires.sound.0, c.requires.sound.1); edges_in_bounds = omega (arith, some) }

pub order-requires : goal.order-requires
order-requires c =
    let some : 1 ≤ block_count c.args.blocks.now = omega (arith, c.requires.sound.0.some_block, blocks_length c.args.blocks.now) in
    walkable c.args.blocks.now c.args.edges.now _ _ (some) c.requires.edges_in_bounds c.successors.ensures

pub shape_of-work : goal.shape_of-work
shape_of-work c = c.order.ensures.kept.len ∙ c.successors.ensures.kept.len

pub returns : goal.returns
returns c =
    let some : 1 ≤ block_count c.args.blocks.now = omega (arith, c.requires.sound.0.some_block, blocks_length c.args.blocks.now) in
    prepared c.args.blocks.now c.args.edges.now _ _ (some) c.requires.edges_in_bounds c.successors.ensures
    c.order.ensures
