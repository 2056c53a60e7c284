-- `line` meets its contract: the local's own row is put to the marks, and the marked blocks are visited.
use Rattle.area_pieces.proofs.LineLaws.{both_lined}
use Rattle.area_pieces.proofs.line.Goals as goal

pub returns : goal.returns
returns c =
    both_lined c.args.blocks.now c.requires.0 c.requires.1 c.row_or.ensures c.visit.ensures
