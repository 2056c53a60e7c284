-- `take_up` meets its contract: the last range is widened, kept, or followed by the new one.
use lib.ListN.{length-set}
use native.Mathlib.Omega.{arith}
use Rattle.packed.proofs.PackedLaws.{put_first, put_next, put_wider, put_kept}
use Rattle.packed.proofs.take_up.Goals.{then-k-gt0+else-start_of-end, else-k-gt0}
use Rattle.packed.proofs.take_up.Goals as goal

pub shape_of-w-then-start_of-end : goal.shape_of-w-then-start_of-end
shape_of-w-then-start_of-end c = simp length-set

pub returns-then-end-e : goal.returns-then-end-e
returns-then-end-e c =
    let a = c.args in
    rw (c.pack.ensures, c.start_of-then-end-e.ensures, c.end_of-e.ensures) (put_wider a.w.now a.at a.k (omega arith) a.x (omega arith) (omega (arith, c.end_of-end.ensures, c.start_of.ensures)) (omega (arith, c.end_of-end.ensures, c.end_of-e.ensures)))

pub returns-else-end-e : goal.returns-else-end-e
returns-else-end-e c =
    let a = c.args in
    put_kept a.w.now a.at a.k (omega arith) a.x (omega arith) (omega (arith, c.end_of-end.ensures, c.start_of.ensures)) (omega (arith, c.end_of-end.ensures, c.end_of-e.ensures))

pub shape_of-w : goal.shape_of-w
shape_of-w c = simp length-set

pub returns : goal.returns
returns c =
    let a = c.args in
    elim c.if-k-gt0.branch [
      | then-k-gt0+else-start_of-end w ↦ put_next a.w.now a.at a.k (omega arith) a.x w.if-k-gt0.true (omega (arith, w.end_of-end.ensures, w.start_of.ensures, w.if-start_of-end.false))
      | else-k-gt0 w ↦ put_first a.w.now a.at a.k (omega arith) a.x (omega arith)
    ]
