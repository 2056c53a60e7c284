-- `components::solve` meets its contract: the rows, and then the walk.
use native.Mathlib.Omega.{arith}
use Prim.Native.Nat.{◌≤◌}
use mathlib.Core.Path.{◌∙◌}
use Rattle.components.proofs.Entries.{walkable, solved}
use Rattle.graph.proofs.Line.{blocks_length}
use Rattle.words.specs.Widths.{block_count}
use Rattle.components.proofs.solve.Goals as goal

pub successors-requires : goal.successors-requires
successors-requires c =
    let some : 1 ≤ block_count c.args.blocks.now = omega (arith, c.requires.sound.0.some_block, blocks_length c.args.blocks.now) in
    record { sound = (c.requires.sound.0, c.requires.sound.1); edges_in_bounds = omega (arith, some) }

pub components-requires : goal.components-requires
components-requires c =
    let some : 1 ≤ block_count c.args.blocks.now = omega (arith, c.requires.sound.0.some_block, blocks_length c.args.blocks.now) in
    walkable c.args.blocks.now c.args.edges.now _ _ c.requires.edges_in_bounds c.successors.ensures (some)

pub shape_of-work : goal.shape_of-work
shape_of-work c = c.components.ensures.kept.len ∙ c.successors.ensures.kept.len

pub returns : goal.returns
returns c =
    let some : 1 ≤ block_count c.args.blocks.now = omega (arith, c.requires.sound.0.some_block, blocks_length c.args.blocks.now) in
    solved c.args.blocks.now c.args.edges.now _ _ c.requires.edges_in_bounds c.successors.ensures (some)
    c.components.ensures
