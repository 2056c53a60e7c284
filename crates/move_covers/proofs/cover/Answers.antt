-- `move_covers::cover` meets its contract: two stores.
use native.Mathlib.Omega.{arith}
use mathlib.Core.Path.{refl, sym}
use Rattle.move_covers.proofs.MovedLaws.{wrote_one}
use lib.ListN.{length-set}
use Rattle.move_covers.proofs.cover.Goals as goal

pub preceding-start-requires : goal.preceding-start-requires
preceding-start-requires c = omega arith

pub beyond-end-requires : goal.beyond-end-requires
beyond-end-requires c = omega arith

pub overflow_mul-out : goal.overflow_mul-out
overflow_mul-out c = omega arith

pub offset_bounds-out-k : goal.offset_bounds-out-k
offset_bounds-out-k c = omega arith

pub bounds-out-k : goal.bounds-out-k
bounds-out-k c = omega arith

pub overflow_mul-out-2 : goal.overflow_mul-out-2
overflow_mul-out-2 c = omega arith

pub overflow_add-out : goal.overflow_add-out
overflow_add-out c = omega arith

pub offset_bounds-out-k-2 : goal.offset_bounds-out-k-2
offset_bounds-out-k-2 c = omega arith

pub bounds-out-k-2 : goal.bounds-out-k-2
bounds-out-k-2 c = simp length-set (omega arith)

pub overflow_add-result : goal.overflow_add-result
overflow_add-result c = omega arith

pub shape_of-out : goal.shape_of-out
shape_of-out c = simp length-set

pub returns : goal.returns
returns c =
    wrote_one (c.args.out.now) c.args.k _ _ _ _ _ (c.requires) refl refl (sym c.preceding-start.ensures) (sym c.beyond-end.ensures)
