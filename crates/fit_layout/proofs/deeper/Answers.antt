-- `deeper` meets its contract: the sum rounded up.
use native.Mathlib.Omega.{arith}
use Rattle.fit_layout.proofs.WordLaws.{rounded_fits, rounded_is}
use Rattle.fit_layout.proofs.deeper.Goals as goal

pub overflow_mul-result : goal.overflow_mul-result
overflow_mul-result c = record { fits = rounded_fits _ _ (omega arith) }

pub returns : goal.returns
returns c = rounded_is _ _
