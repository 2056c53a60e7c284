-- `copy_group` meets its contract: each number of the group's room is a record's, or zero.
use native.Mathlib.Omega.{arith}
use mathlib.Core.Path.{refl}
use Rattle.words.proofs.RegionLaws.{done_start, done_more, done_all}
use Rattle.text_lines.proofs.CopyLaws.{group_held, group_past}
use Rattle.text_lines.proofs.text.copy_group.Goals as goal
use Rattle.text_lines.proofs.text.copy_group.Goals.{then-j-len, else-j-len}

pub loop-j-init : goal.loop-j-init
loop-j-init c = done_start _ _ _ _ c.requires.1

pub loop-j-preserved : goal.loop-j-preserved
loop-j-preserved c =
    let a = c.args in
    elim c.if-j-len.branch [
      | then-j-len w ↦ rw w.rows-is (done_more c.loop-j.invariant _ _ c.loop-j-test.true refl (group_held a.held.now a.base a.len c.loop-j.j _ w.if-j-len.true refl))
      | else-j-len w ↦ rw w.rows-is (done_more c.loop-j.invariant _ _ c.loop-j-test.true refl (group_past a.held.now a.base a.len c.loop-j.j (let t = w.if-j-len.false in omega arith)))
    ]

pub returns : goal.returns
returns c = done_all c.loop-j.invariant (let t = c.loop-j-test.false in omega arith)
