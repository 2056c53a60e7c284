-- `members` meets its contract: m of the first i items are in the cell.
use Rattle.members.proofs.MemberLaws.{members_none, members_le, members_hit, members_miss}
use native.Mathlib.Omega.{arith}
use Prim.Native.Nat.{ℕ, ◌+◌}
use mathlib.Core.Path.{sym, ap, ◌∙◌}
use Rattle.members.proofs.members.Goals as goal
use Rattle.members.proofs.members.Goals.{then-items-i, else-items-i}

pub loop-i-init : goal.loop-i-init
loop-i-init c = sym (members_none _ _)

pub overflow_add-m : goal.overflow_add-m
overflow_add-m c =
    omega (arith, c.loop-i.invariant, members_le c.args.items.now c.args.cell c.loop-i.i)

pub loop-i-preserved : goal.loop-i-preserved
loop-i-preserved c =
    elim c.if-items-i.branch [
      | then-items-i u ↦ rw u.m-is (ap (λ (x : ℕ). x + 1) c.loop-i.invariant ∙ sym (members_hit c.args.items.now c.args.cell c.loop-i.i u.if-items-i.true))
      | else-items-i u ↦ rw u.m-is (c.loop-i.invariant ∙ sym (members_miss c.args.items.now c.args.cell c.loop-i.i u.if-items-i.false))
    ]
