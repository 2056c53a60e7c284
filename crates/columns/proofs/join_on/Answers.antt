-- `join_on` meets its contract: the copied list is lengthened or has the new range appended.
use lib.ListN.{length-set}
use mathlib.Core.Path.{sym, ◌∙◌}
use native.Mathlib.Omega.{arith}
use borrow.Author.Tests.{eqb-true, eqb-false}
use Rattle.columns.proofs.ColumnLaws.{join_longer, join_first, join_next}
use Rattle.columns.proofs.join_on.Goals.{else-n-gt0-via-then-n-gt0+else-follows, else-n-gt0-via-else-n-gt0}
use Rattle.columns.proofs.join_on.Goals as goal

pub shape_of-out_end-then-follows : goal.shape_of-out_end-then-follows
shape_of-out_end-then-follows c = simp length-set (omega arith)

pub returns-then-follows : goal.returns-then-follows
returns-then-follows c =
    let a = c.args in
    join_longer a.start.now a.end.now a.out_start.now a.out_end.now c.requires.0 c.requires.1 c.requires.2 _ _ c.copy_u32.ensures c.copy_u32-2.ensures a.s a.e (omega arith) (eqb-true _ _ (sym c.follows.ensures ∙ c.if-follows.true))

pub shape_of-out_start : goal.shape_of-out_start
shape_of-out_start c = simp length-set (omega arith)

pub shape_of-out_end : goal.shape_of-out_end
shape_of-out_end c = simp length-set (omega arith)

pub returns : goal.returns
returns c =
    let a = c.args in
    let copied = c.copy_u32.ensures in
    let ends_copied = c.copy_u32-2.ensures in
    elim c.else-n-gt0.branch [
      | else-n-gt0-via-then-n-gt0+else-follows w ↦
          join_next a.start.now a.end.now a.out_start.now a.out_end.now c.requires.0 c.requires.1 c.requires.2 _ _ copied ends_copied a.s a.e w.if-n-gt0.true (eqb-false _ _ (sym w.follows.ensures ∙ w.if-follows.false))
      | else-n-gt0-via-else-n-gt0 w ↦
          join_first a.start.now a.end.now a.out_start.now a.out_end.now c.requires.0 c.requires.1 c.requires.2 _ _ copied ends_copied a.s a.e (omega arith)
    ]
