-- `area_rows::marks::unmark` meets its contract.
use Rattle.area_rows.proofs.PutLaws.{put_one}
use Rattle.passing_marks.proofs.unmark.Goals as goal

pub returns : goal.returns
returns c =
    put_one c.requires.0 c.requires.1 c.unset.ensures
