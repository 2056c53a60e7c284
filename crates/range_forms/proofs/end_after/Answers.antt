-- `end_after` meets its contract: a law for each case of the answer.
use Rattle.range_forms.proofs.LastLaws.{end_raised, end_left, end_kept}
use Rattle.range_forms.proofs.end_after.Goals as goal

-- src/lib.rt:36:17
pub returns-then-b : goal.returns-then-b
returns-then-b c = end_raised _ _ _ c.taken_up-t.ensures _ c.in-Ok.is c.if-b.true

-- src/lib.rt:29:1
pub returns-else-b : goal.returns-else-b
returns-else-b c = end_left _ _ _ c.taken_up-t.ensures _ c.in-Ok.is c.if-b.false

-- src/lib.rt:29:1
pub returns-in-Err : goal.returns-in-Err
returns-in-Err c = end_kept _ _ _ c.taken_up-t.ensures _ _ c.in-Err.is
