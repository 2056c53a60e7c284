-- `bits::lowest` meets its contract: the zeros below the lowest set bit are its place.
use Rattle.bits.proofs.DigitLaws.{lowest_is}
use lib.Count.{trailing_le}
use native.Mathlib.Omega.{arith}
use Rattle.bits.proofs.lowest.Goals as goal

pub overflow_cast-result : goal.overflow_cast-result
overflow_cast-result c = omega (arith, trailing_le 64 c.args.x)

pub returns : goal.returns
returns c = lowest_is c.args.x (omega arith) (omega arith)
