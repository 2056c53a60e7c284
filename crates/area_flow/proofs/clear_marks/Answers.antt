-- `area_flow::clear_marks` meets its contract.
use Rattle.area_flow.proofs.ClearLaws.{unmarked}
use Rattle.area_flow.proofs.clear_marks.Goals as goal

pub returns : goal.returns
returns c =
    unmarked c.args.g c.args.n c.requires.0 c.requires.1 c.fill.ensures
    c.fill-2.ensures c.fill-3.ensures
