-- `unplaced` meets its contract: the first flag is not set.
use native.Mathlib.Omega.{arith}
use Rattle.inst_flags.proofs.FlagLaws.{unplaced_is}
use Rattle.inst_flags.proofs.unplaced.Goals as goal

pub overflow_mul-result : goal.overflow_mul-result
overflow_mul-result c = omega arith

pub offset_bounds-insts-i : goal.offset_bounds-insts-i
offset_bounds-insts-i c = omega arith

pub bounds-insts-i : goal.bounds-insts-i
bounds-insts-i c = omega arith

pub returns : goal.returns
returns c = unplaced_is c.args.insts.now c.args.i
