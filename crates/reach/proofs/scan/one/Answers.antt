-- `reach::scan::one` meets its contract: the def, the registers that escape and the edges, one after another.
use native.Mathlib.Omega.{arith}
use mathlib.Core.Path.{refl}
use Rattle.reach.proofs.ScanLaws.{added}
use Rattle.reach.proofs.scan.one.Goals as goal

pub returns : goal.returns
returns c =
    let z = c.wide-n.ensures in
    added c.args.lay c.args.v _ c.args.i _ _ _ refl (rw z at c.def-def.ensures) (omega arith) (omega arith)
    (omega arith) (omega arith) c.escapes.ensures c.hand.ensures
