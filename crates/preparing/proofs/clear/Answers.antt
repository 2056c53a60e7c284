-- `preparing::clear` meets its contract: two rows of zeros.
use native.Mathlib.Omega.{arith}
use Rattle.preparing.proofs.ReadyLaws.{cleared_two}
use Rattle.preparing.proofs.clear.Goals as goal

pub returns : goal.returns
returns c =
    cleared_two c.args.lay c.args.words (omega arith) c.fill.ensures c.fill-2.ensures
