-- `offset` meets its contract: minus a depth that is a number of 32 bits with a sign.
use native.Mathlib.Omega.{arith}
use Rattle.fit_layout.proofs.WordLaws.{minus_fits, minus_is}
use Rattle.fit_layout.proofs.offset.Goals as goal

pub overflow_sub-result : goal.overflow_sub-result
overflow_sub-result c = record { sfits = minus_fits c.args.depth (omega arith) }

pub returns : goal.returns
returns c = minus_is c.args.depth (omega arith)
