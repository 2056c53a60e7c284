-- `flow::solve` meets its contract: the rows of the edges, the components, the rows lent, and then the flow.
use native.Mathlib.Omega.{arith}
use Prim.Native.Nat.{◌≤◌}
use mathlib.Core.Path.{◌∙◌}
use lib.ListN.{length}
use Rattle.flow.proofs.Entries.{Sums, sums, walkable, copy_fits, ordered, laid, solved}
use Rattle.graph.proofs.Line.{blocks_length}
use Rattle.words.specs.Widths.{block_count, edge_count}
use Rattle.flow.proofs.solve.Goals as goal

pub overflow_add-base : goal.overflow_add-base
overflow_add-base c =
    let some : 1 ≤ block_count c.args.blocks.now = omega (arith, c.requires.sound.0.some_block, blocks_length c.args.blocks.now) in
    let fit : Sums (block_count c.args.blocks.now) (edge_count c.args.edges.now) (length c.args.touched.now) = sums _ _ _ (length c.args.work.now) (some) c.requires.touched_in_bounds (omega (arith, c.well_formed)) in
    (fit).edges

pub overflow_add-base-2 : goal.overflow_add-base-2
overflow_add-base-2 c =
    let some : 1 ≤ block_count c.args.blocks.now = omega (arith, c.requires.sound.0.some_block, blocks_length c.args.blocks.now) in
    let fit : Sums (block_count c.args.blocks.now) (edge_count c.args.edges.now) (length c.args.touched.now) = sums _ _ _ (length c.args.work.now) (some) c.requires.touched_in_bounds (omega (arith, c.well_formed)) in
    (fit).one

pub overflow_add-base-3 : goal.overflow_add-base-3
overflow_add-base-3 c =
    let some : 1 ≤ block_count c.args.blocks.now = omega (arith, c.requires.sound.0.some_block, blocks_length c.args.blocks.now) in
    let fit : Sums (block_count c.args.blocks.now) (edge_count c.args.edges.now) (length c.args.touched.now) = sums _ _ _ (length c.args.work.now) (some) c.requires.touched_in_bounds (omega (arith, c.well_formed)) in
    (fit).row

pub overflow_add-base-4 : goal.overflow_add-base-4
overflow_add-base-4 c =
    let some : 1 ≤ block_count c.args.blocks.now = omega (arith, c.requires.sound.0.some_block, blocks_length c.args.blocks.now) in
    let fit : Sums (block_count c.args.blocks.now) (edge_count c.args.edges.now) (length c.args.touched.now) = sums _ _ _ (length c.args.work.now) (some) c.requires.touched_in_bounds (omega (arith, c.well_formed)) in
    (fit).base

pub overflow_mul-lent : goal.overflow_mul-lent
overflow_mul-lent c =
    let some : 1 ≤ block_count c.args.blocks.now = omega (arith, c.requires.sound.0.some_block, blocks_length c.args.blocks.now) in
    let fit : Sums (block_count c.args.blocks.now) (edge_count c.args.edges.now) (length c.args.touched.now) = sums _ _ _ (length c.args.work.now) (some) c.requires.touched_in_bounds (omega (arith, c.well_formed)) in
    (fit).six

pub overflow_add-lent : goal.overflow_add-lent
overflow_add-lent c =
    let some : 1 ≤ block_count c.args.blocks.now = omega (arith, c.requires.sound.0.some_block, blocks_length c.args.blocks.now) in
    let fit : Sums (block_count c.args.blocks.now) (edge_count c.args.edges.now) (length c.args.touched.now) = sums _ _ _ (length c.args.work.now) (some) c.requires.touched_in_bounds (omega (arith, c.well_formed)) in
    (fit).lent

pub overflow_add-out : goal.overflow_add-out
overflow_add-out c =
    let some : 1 ≤ block_count c.args.blocks.now = omega (arith, c.requires.sound.0.some_block, blocks_length c.args.blocks.now) in
    let fit : Sums (block_count c.args.blocks.now) (edge_count c.args.edges.now) (length c.args.touched.now) = sums _ _ _ (length c.args.work.now) (some) c.requires.touched_in_bounds (omega (arith, c.well_formed)) in
    (fit).out

pub neighbours-requires : goal.neighbours-requires
neighbours-requires c =
    let some : 1 ≤ block_count c.args.blocks.now = omega (arith, c.requires.sound.0.some_block, blocks_length c.args.blocks.now) in
    record { sound = (c.requires.sound.0, c.requires.sound.1); edges_in_bounds = omega (arith, some) }

pub overflow_add-e : goal.overflow_add-e
overflow_add-e c =
    let some : 1 ≤ block_count c.args.blocks.now = omega (arith, c.requires.sound.0.some_block, blocks_length c.args.blocks.now) in
    let fit : Sums (block_count c.args.blocks.now) (edge_count c.args.edges.now) (length c.args.touched.now) = sums _ _ _ (length c.args.work.now) (some) c.requires.touched_in_bounds (omega (arith, c.well_formed)) in
    (fit).edges

pub components-requires : goal.components-requires
components-requires c =
    let some : 1 ≤ block_count c.args.blocks.now = omega (arith, c.requires.sound.0.some_block, blocks_length c.args.blocks.now) in
    walkable c.args.over c.args.blocks.now c.args.edges.now c.args.touched.now c.args.words _ _ (some) c.requires.sound.2 c.requires.touched_in_bounds
    c.neighbours.ensures

pub copy_from-requires : goal.copy_from-requires
copy_from-requires c =
    let some : 1 ≤ block_count c.args.blocks.now = omega (arith, c.requires.sound.0.some_block, blocks_length c.args.blocks.now) in (
      copy_fits c.args.over c.args.blocks.now c.args.edges.now c.args.touched.now c.args.words _ _ (some) c.requires.sound.2 c.requires.touched_in_bounds
          c.neighbours.ensures c.components.ensures,
      omega arith,
    )

pub overflow_add-e-2 : goal.overflow_add-e-2
overflow_add-e-2 c =
    let some : 1 ≤ block_count c.args.blocks.now = omega (arith, c.requires.sound.0.some_block, blocks_length c.args.blocks.now) in
    let fit : Sums (block_count c.args.blocks.now) (edge_count c.args.edges.now) (length c.args.touched.now) = sums _ _ _ (length c.args.work.now) (some) c.requires.touched_in_bounds (omega (arith, c.well_formed)) in
    (fit).edges

pub flowed-requires : goal.flowed-requires
flowed-requires c =
    let some : 1 ≤ block_count c.args.blocks.now = omega (arith, c.requires.sound.0.some_block, blocks_length c.args.blocks.now) in (
      laid c.args.over c.args.blocks.now c.args.edges.now c.args.touched.now c.args.words _ _ (some) c.requires.sound.2 c.requires.touched_in_bounds c.neighbours.ensures
          c.components.ensures c.copy_from.ensures,
      ordered c.args.over c.args.blocks.now c.args.edges.now c.args.touched.now c.args.words _ _ (some)
          c.requires.sound.2 c.requires.touched_in_bounds c.neighbours.ensures c.components.ensures c.copy_from.ensures,
    )

pub shape_of-work : goal.shape_of-work
shape_of-work c =
    c.flowed.ensures.kept.len ∙ c.copy_from.ensures.len
    ∙ c.components.ensures.kept.len
    ∙ c.neighbours.ensures.kept.len

pub returns : goal.returns
returns c =
    let some : 1 ≤ block_count c.args.blocks.now = omega (arith, c.requires.sound.0.some_block, blocks_length c.args.blocks.now) in
    solved c.args.over c.args.blocks.now c.args.edges.now c.args.touched.now c.args.words _ _ (some) c.requires.sound.2 c.requires.touched_in_bounds
    c.neighbours.ensures
    c.components.ensures c.copy_from.ensures
    c.flowed.ensures
