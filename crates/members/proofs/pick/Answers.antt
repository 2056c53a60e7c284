-- `pick` meets its contract: the first s slots have been looked at.
use Rattle.members.proofs.MemberLaws.{picking_start, picking_hit, picking_miss, picking_done, slot_test, slot_known}
use borrow.Author.Tests.{lt-ltb, le-ltb}
use Rattle.members.specs.Inner.{crowded_slot}
use native.Mathlib.Omega.{arith}
use mathlib.Core.Path.{sym, ◌∙◌}
use Rattle.members.proofs.pick.Goals as goal
use Rattle.members.proofs.pick.Goals.{then-counts-c-gt1, else-counts-c-gt1}

pub loop-s-init : goal.loop-s-init
loop-s-init c = (omega arith, picking_start (crowded_slot c.args.items.now c.args.locals) _ c.args.out.now (omega arith))

pub bounds-counts-c : goal.bounds-counts-c
bounds-counts-c c =
    omega (arith, slot_known c.args.locals c.loop-s.s c.requires.0 (omega arith))

pub loop-s-preserved : goal.loop-s-preserved
loop-s-preserved c =
    let known = sym (slot_test c.args.locals c.loop-s.s c.requires.0 (omega arith)) in
    elim c.if-counts-c-gt1.branch [
      | then-counts-c-gt1 u ↦ (omega arith, rw (u.out-is, u.k-is) (picking_hit c.loop-s.invariant.1 (omega arith) (known ∙ lt-ltb _ _ u.if-counts-c-gt1.true)))
      | else-counts-c-gt1 u ↦ (omega arith, rw (u.out-is, u.k-is) (picking_miss c.loop-s.invariant.1 (omega arith) (known ∙ le-ltb _ _ u.if-counts-c-gt1.false)))
    ]

pub returns : goal.returns
returns c = let p = picking_done c.loop-s.invariant.1 (omega arith) in p
