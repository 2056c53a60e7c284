-- `handing` meets its contract: a law for each way out.
use native.Mathlib.Omega.{arith}
use Rattle.inst_flags.proofs.FlagLaws.{handing_unplaced, handing_other, handing_lea}
use Rattle.inst_flags.proofs.handing.Goals as goal

pub overflow_mul-at : goal.overflow_mul-at
overflow_mul-at c = omega arith

pub offset_bounds-insts-at : goal.offset_bounds-insts-at
offset_bounds-insts-at c = omega arith

pub bounds-insts-at : goal.bounds-insts-at
bounds-insts-at c = omega arith

pub returns-then-insts-at-ne1 : goal.returns-then-insts-at-ne1
returns-then-insts-at-ne1 c = handing_unplaced c.args.insts.now c.args.i c.if-insts-at-ne1.true

pub overflow_add-at : goal.overflow_add-at
overflow_add-at c = omega arith

pub offset_bounds-insts-at-2 : goal.offset_bounds-insts-at-2
offset_bounds-insts-at-2 c = omega arith

pub bounds-insts-at-2 : goal.bounds-insts-at-2
bounds-insts-at-2 c = omega arith

pub returns-then-insts-at-ne1-2 : goal.returns-then-insts-at-ne1-2
returns-then-insts-at-ne1-2 c =
    handing_other c.args.insts.now c.args.i c.if-insts-at-ne1.false (λ e. omega arith)

pub overflow_add-result : goal.overflow_add-result
overflow_add-result c = omega arith

pub offset_bounds-insts-at-3 : goal.offset_bounds-insts-at-3
offset_bounds-insts-at-3 c = omega arith

pub bounds-insts-at-3 : goal.bounds-insts-at-3
bounds-insts-at-3 c = omega arith

pub returns : goal.returns
returns c =
    handing_lea c.args.insts.now c.args.i c.if-insts-at-ne1.false (omega arith)
