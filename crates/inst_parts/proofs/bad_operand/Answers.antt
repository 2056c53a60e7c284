-- `bad_operand` meets its contract: by the flag, or by the register.
use native.Mathlib.Omega.{arith}
use Rattle.inst_parts.proofs.PartLaws.{bad_flag, by_register}
use Rattle.inst_parts.proofs.bad_operand.Goals as goal

pub overflow_add-top : goal.overflow_add-top
overflow_add-top c = omega arith

pub overflow_mul-i : goal.overflow_mul-i
overflow_mul-i c = omega arith

pub offset_bounds-operands-i : goal.offset_bounds-operands-i
offset_bounds-operands-i c = omega arith

pub bounds-operands-i : goal.bounds-operands-i
bounds-operands-i c = omega arith

pub returns-then-operands-i-gt1 : goal.returns-then-operands-i-gt1
returns-then-operands-i-gt1 c = bad_flag c.args.operands.now c.args.i c.args.v c.if-operands-i-gt1.true

pub overflow_mul-result : goal.overflow_mul-result
overflow_mul-result c = omega arith

pub overflow_add-result : goal.overflow_add-result
overflow_add-result c = omega arith

pub offset_bounds-operands-i-2 : goal.offset_bounds-operands-i-2
offset_bounds-operands-i-2 c = omega arith

pub bounds-operands-i-2 : goal.bounds-operands-i-2
bounds-operands-i-2 c = omega arith

pub returns : goal.returns
returns c =
    by_register c.args.operands.now c.args.i c.args.v c.if-operands-i-gt1.false
