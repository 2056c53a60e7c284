-- `take_up` meets its contract: the last range is widened, kept, or followed by the new one.
use Prim.Native.Nat.{◌-◌}
use lib.ListN.{length-set}
use native.Mathlib.Omega.{arith}
use Rattle.columns.proofs.ColumnLaws.{take_first, take_next, take_wider, take_kept}
use Rattle.columns.proofs.take_up.Goals.{then-k-gt0+else-s-last, else-k-gt0}
use Rattle.columns.proofs.take_up.Goals as goal

pub overflow_cast-last : goal.overflow_cast-last
overflow_cast-last c = omega (arith, c.type_inv.out_end (c.args.k - 1))

pub overflow_add-last : goal.overflow_add-last
overflow_add-last c = omega (arith, c.type_inv.out_end (c.args.k - 1))

pub shape_of-out_end-then-s-last : goal.shape_of-out_end-then-s-last
shape_of-out_end-then-s-last c = simp length-set

pub returns-then-last-e : goal.returns-then-last-e
returns-then-last-e c =
    let a = c.args in take_wider a.out_start.now a.out_end.now c.requires.0 a.k (omega arith) a.s a.e (omega arith) (omega arith) (omega arith)

pub returns-else-last-e : goal.returns-else-last-e
returns-else-last-e c =
    let a = c.args in take_kept a.out_start.now a.out_end.now c.requires.0 a.k (omega arith) a.s a.e (omega arith) (omega arith) (omega arith)

pub shape_of-out_start : goal.shape_of-out_start
shape_of-out_start c = simp length-set

pub shape_of-out_end : goal.shape_of-out_end
shape_of-out_end c = simp length-set

pub returns : goal.returns
returns c =
    let a = c.args in
    elim c.if-k-gt0.branch [
      | then-k-gt0+else-s-last w ↦ take_next a.out_start.now a.out_end.now c.requires.0 a.k (omega arith) a.s a.e w.if-k-gt0.true w.if-s-last.false
      | else-k-gt0 w ↦ take_first a.out_start.now a.out_end.now c.requires.0 a.k (omega arith) a.s a.e (omega arith)
    ]
