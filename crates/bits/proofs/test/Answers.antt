-- `bits::test` meets its contract: a shift and a mask give the bit.
use Rattle.bits.proofs.BitLaws.{tested}
use Rattle.bits.proofs.test.Goals as goal

pub returns : goal.returns
returns c = let a = c.args in tested a.w.now a.base a.b
