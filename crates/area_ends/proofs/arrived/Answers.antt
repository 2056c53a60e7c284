-- `arrived` meets its contract: the local's own row becomes the marks, and the marked blocks are visited.
use Rattle.area_ends.proofs.ArriveLaws.{copied_arrived}
use Rattle.area_ends.proofs.arrived.Goals as goal

pub returns : goal.returns
returns c =
    copied_arrived c.args.blocks.now c.requires c.copy.ensures c.arrive.ensures
