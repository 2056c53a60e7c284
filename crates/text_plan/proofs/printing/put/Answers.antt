-- `put` meets its contract: a byte more is written or counted each turn.
use native.Mathlib.Omega.{arith}
use Rattle.text_plan.proofs.PutLaws.{bytes_start, byte_in, byte_out, bytes_all, puts_length}
use Rattle.text_plan.proofs.printing.put.Goals as goal
use Rattle.text_plan.proofs.printing.put.Goals.{then-at-i, else-at-i}

pub loop-i-init : goal.loop-i-init
loop-i-init c = (omega arith, bytes_start c.args.s.now _ _)

pub shape_of-out : goal.shape_of-out
shape_of-out c = puts_length c.loop-i.invariant.1

pub loop-i-preserved : goal.loop-i-preserved
loop-i-preserved c =
    elim c.if-at-i.branch [
      | then-at-i w ↦ (omega arith, rw w.out-is (byte_in c.args.s.now c.args.at c.loop-i.i (omega arith) c.loop-i.invariant.1))
      | else-at-i w ↦ (omega arith, rw w.out-is (byte_out c.args.s.now c.args.at c.loop-i.i (omega arith) c.loop-i.invariant.1 (omega arith)))
    ]

pub returns : goal.returns
returns c = bytes_all c.args.s.now c.args.at c.loop-i.i (omega arith) c.loop-i.invariant.1
