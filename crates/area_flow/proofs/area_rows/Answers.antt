-- `area_flow::area_rows` meets its contract.
use Rattle.components.specs.Entry.{edges_in}
use Rattle.area_flow.proofs.BlockRows.{still, area_rows_lem}
use Rattle.area_flow.proofs.area_rows.Goals as goal

pub flow_rows-requires : goal.flow_rows-requires
flow_rows-requires c =
    (c.requires.sound.0, c.requires.sound.1, c.requires.sound.2)

pub turn_rows-requires : goal.turn_rows-requires
turn_rows-requires c =
    still (edges_in c.args.blocks.now c.args.edges.now) c.args.g _ _ c.requires.sound.2 c.flow_rows.ensures c.requires.quiet

pub returns : goal.returns
returns c =
    area_rows_lem (edges_in c.args.blocks.now c.args.edges.now) c.args.g _ _ c.requires.sound.2 c.flow_rows.ensures
    c.turn_rows.ensures
