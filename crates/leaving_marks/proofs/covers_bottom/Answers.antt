-- `area_rows::marks::covers_bottom` meets its contract.
use Rattle.spots.specs.Inner.{ends_at}
use Rattle.leaving_marks.proofs.LeaveLaws.{covers_is}
use Rattle.leaving_marks.proofs.covers_bottom.Goals as goal

pub returns : goal.returns
returns c =
    λ es start. covers_is c.args.blocks.now (ends_at c.args.s c.args.work.now) _ start _ _ _ es c.requires.0 c.smaller-last.ensures c.until.ensures
