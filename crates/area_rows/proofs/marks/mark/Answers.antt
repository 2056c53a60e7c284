-- `area_rows::marks::mark` meets its contract.
use Rattle.area_rows.proofs.PutLaws.{word_in, put_one}
use native.Mathlib.Omega.{arith}
use Rattle.area_rows.proofs.marks.mark.Goals as goal

pub returns : goal.returns
returns c =
    put_one c.requires.0 c.requires.1 c.set.ensures
