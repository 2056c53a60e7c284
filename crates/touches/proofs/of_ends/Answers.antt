-- `touches::of_ends` meets its contract: the placed ends behind `next` stand there.
use Prim.Native.Nat.{◌-◌}
use mathlib.Core.Path.{refl}
use Rattle.touches.proofs.EntryLaws.{walk_start, turn, walk_skip, walk_more, walk_less, walk_done, end_given, end_none}
use Rattle.touches.proofs.of_ends.Goals as goal

pub loop-next-init : goal.loop-next-init
loop-next-init c = walk_start _ _ _ _ _ _ _ _ _ c.requires refl

pub loop-next-smaller-then-insts-i-eq1 : goal.loop-next-smaller-then-insts-i-eq1
loop-next-smaller-then-insts-i-eq1 c =
    walk_less _ _ _ _ c.loop-next.invariant (turn _ _ _ _ c.loop-next.invariant _ c.loop-next-test.true refl) _ refl

pub loop-next-preserved-then-insts-i-eq1 : goal.loop-next-preserved-then-insts-i-eq1
loop-next-preserved-then-insts-i-eq1 c =
    walk_more _ _ _ _ c.loop-next.invariant (turn _ _ _ _ c.loop-next.invariant _ c.loop-next-test.true refl) _
    (end_given c.args.insts.now c.args.ends.now (c.loop-next.next - 1) _ refl c.if-insts-i-eq1.true) _ _ refl refl

pub loop-next-smaller : goal.loop-next-smaller
loop-next-smaller c =
    walk_less _ _ _ _ c.loop-next.invariant (turn _ _ _ _ c.loop-next.invariant _ c.loop-next-test.true refl) _ refl

pub loop-next-preserved : goal.loop-next-preserved
loop-next-preserved c =
    walk_skip _ _ _ _ c.loop-next.invariant (turn _ _ _ _ c.loop-next.invariant _ c.loop-next-test.true refl)
    (end_none c.args.insts.now c.args.ends.now (c.loop-next.next - 1) _ refl c.if-insts-i-eq1.false) _ refl

pub returns : goal.returns
returns c = walk_done _ _ _ _ c.loop-next.invariant c.loop-next-test.false
