use Rattle.drawing.proofs.RowLaws.{counted_start, counted_few, counted_more, counted_done}
use native.Mathlib.Omega.{arith}
use Rattle.drawing.proofs.digits.Goals as goal

-- src/lib.rt:175:5
pub loop-top-init : goal.loop-top-init
loop-top-init c = counted_start _ (omega arith)

-- src/lib.rt:177:9
pub overflow_add-k : goal.overflow_add-k
overflow_add-k c = let h = counted_few c.loop-top.invariant in omega arith

-- src/lib.rt:175:5
pub loop-top-smaller : goal.loop-top-smaller
loop-top-smaller c = let e = c.loop-top.invariant.positive in omega arith

-- src/lib.rt:175:5
pub loop-top-preserved : goal.loop-top-preserved
loop-top-preserved c = counted_more c.loop-top.invariant (omega arith)

-- src/lib.rt:169:1
pub returns : goal.returns
returns c = counted_done c.loop-top.invariant (omega arith)
