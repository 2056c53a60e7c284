-- `taken_up` meets its contract: a law for each way out.
use native.Mathlib.Omega.{arith}
use Rattle.range_forms.proofs.LastLaws.{says_last, says_new, says_follows}
use Rattle.range_forms.proofs.taken_up.Goals as goal

-- src/lib.rt:20:9
pub returns-then-last : goal.returns-then-last
returns-then-last c = says_last _ _ (omega arith)

-- src/lib.rt:23:9
pub returns-then-new : goal.returns-then-new
returns-then-new c = says_new _ _ (omega arith) (omega arith)

-- src/lib.rt:16:1
pub returns : goal.returns
returns c = says_follows _ _ (omega arith) (omega arith) _ c.follows.ensures
