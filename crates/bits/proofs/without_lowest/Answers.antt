-- `bits::without_lowest` meets its contract by the laws of digits.
use Rattle.bits.proofs.DigitLaws.{without_is}
use native.Mathlib.Omega.{arith}
use Rattle.bits.proofs.without_lowest.Goals as goal

pub returns : goal.returns
returns c = without_is c.args.x (omega arith) (omega arith)
