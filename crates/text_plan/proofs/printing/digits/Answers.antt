-- `digits` meets its contract: the digits of m are left, and those behind them stand in the list.
use native.Mathlib.Omega.{arith}
use mathlib.Core.Path.{sym, ◌∙◌}
use lib.ListN.{length-set}
use Rattle.text_plan.proofs.PutLaws.{digits_start, digit_more, digit_last}
use Rattle.text_plan.proofs.printing.digits.Goals as goal

pub loop-m-init : goal.loop-m-init
loop-m-init c = digits_start _ _ (omega arith) c.requires

pub loop-m-preserved : goal.loop-m-preserved
loop-m-preserved c = digit_more c.loop-m.invariant c.loop-m-test.true

pub shape_of-buf : goal.shape_of-buf
shape_of-buf c = simp length-set (c.loop-m.invariant.len ∙ sym c.requires)

pub returns : goal.returns
returns c = (let b = c.loop-m.invariant.i_le in omega arith, digit_last c.loop-m.invariant (omega arith))
