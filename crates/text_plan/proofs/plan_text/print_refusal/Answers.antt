-- `print_refusal` meets its contract: too long, or written.
use native.Mathlib.Omega.{arith}
use lib.Dec.{lit≤, lit<}
use Rattle.text_plan.proofs.PlanLaws.{refusal_long, refusal_written}
use Rattle.text_plan.proofs.PutLaws.{puts_length}
use Rattle.text_plan.proofs.plan_text.print_refusal.Goals as goal

pub put_line-len-requires : goal.put_line-len-requires
put_line-len-requires c = (lit< tt, lit≤ tt)

pub returns-then-out-len : goal.returns-then-out-len
returns-then-out-len c =
    let a = c.args in
    refusal_long a.number a.index a.out.now c.put_line-len.ensures c.if-out-len.true

pub put_line-requires : goal.put_line-requires
put_line-requires c = (lit< tt, lit≤ tt)

pub shape_of-out : goal.shape_of-out
shape_of-out c = puts_length c.put_line.ensures

pub returns : goal.returns
returns c =
    let a = c.args in
    refusal_written a.number a.index a.out.now c.put_line-len.ensures (omega arith) c.put_line.ensures
