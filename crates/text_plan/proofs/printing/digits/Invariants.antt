-- `digits` meets its contract: the digits of m are left, and those behind them stand in the list.
use Rattle.text_plan.proofs.PutLaws.{Digits}
use Rattle.text_plan.proofs.printing.digits.Given as goal

abbrev pub invariant-loop-m : goal.invariant-loop-m
invariant-loop-m l = Digits l.n l.buf l.i l.m

abbrev pub decreases-loop-m : goal.decreases-loop-m
decreases-loop-m l = l.m
