-- `preparing::empty` meets its contract: three regions of zeros.
use native.Mathlib.Omega.{arith}
use Rattle.preparing.proofs.ReadyLaws.{emptied_three}
use Rattle.preparing.proofs.empty.Goals as goal

pub returns : goal.returns
returns c =
    emptied_three c.args.lay c.args.words c.args.locals (omega arith) (omega arith)
    c.fill.ensures c.fill-2.ensures
    c.fill-3.ensures
