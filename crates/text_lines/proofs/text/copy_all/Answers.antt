-- `copy_all` meets its contract: one group more each turn.
use native.Mathlib.Omega.{arith}
use Rattle.text_lines.proofs.CopyLaws.{copy_start, copy_more, copy_done, rooms_as, group_as}
use Rattle.text_lines.proofs.text.copy_all.Goals as goal

pub loop-k-init : goal.loop-k-init
loop-k-init c = copy_start _ _ _ _ c.requires

pub copy_group-requires : goal.copy_group-requires
copy_group-requires c =
    let p = c.requires in
    rooms_as p c.loop-k.invariant c.loop-k-test.true _ _ _ c.entry_of-e.ensures.base c.entry_of-e.ensures.width c.entry_of-e.ensures.room

pub loop-k-preserved : goal.loop-k-preserved
loop-k-preserved c =
    let p = c.requires in
    let a = c.args in
    copy_more p c.loop-k.invariant c.loop-k-test.true
    (group_as a.held.now c.loop-k.k _ _ _ _ c.entry_of-e.ensures.base c.entry_of-e.ensures.width c.entry_of-e.ensures.room c.copy_group.ensures)

pub returns : goal.returns
returns c = copy_done c.requires c.loop-k.invariant (let t = c.loop-k-test.false in omega arith)
