-- `join` meets its contract: the def is seen, or the entry is new.
use native.Mathlib.Omega.{arith}
use mathlib.Core.Path.{refl, sym, ◌∙◌}
use lib.ListN.{set, length-set}
use Rattle.queue.proofs.QueueLaws.{held_room, joined_seen, joined_new}
use Rattle.queue.proofs.join.Goals as goal

pub test-requires : goal.test-requires
test-requires c =
    let q = (c.requires).0.def_le (c.args).i (c.requires).1 in omega arith

pub returns-then-test : goal.returns-then-test
returns-then-test c =
    joined_seen (c.requires).0 (c.args).i (c.requires).1 (c.requires).2 (sym (c.test).ensures ∙ c.if-test.true)

pub set-requires : goal.set-requires
set-requires c =
    let q = (c.requires).0.def_le (c.args).i (c.requires).1 in omega arith

pub bounds-work-lay-2 : goal.bounds-work-lay-2
bounds-work-lay-2 c =
    let q = held_room (c.requires).0 (c.args).i (c.requires).1
    (sym (c.test).ensures ∙ (c.if-test).false) in
    omega (arith, (c.set).ensures.len)

pub shape_of-work : goal.shape_of-work
shape_of-work c = simp length-set (c.set).ensures.len

pub returns : goal.returns
returns c =
    joined_new (c.requires).0 (c.args).i _ _ (c.requires).1 (c.requires).2 refl
    (sym (c.test).ensures ∙ (c.if-test).false)
    (c.set).ensures refl
