-- `follow::walks::begin` meets its contract: the entries from c on were taken.
use Prim.Native.Nat.{◌-◌}
use mathlib.Core.Path.{refl}
use Rattle.follow.proofs.BeginLaws.{begin_start, begin_more, begin_done}
use Rattle.follow.proofs.PlaceLaws.{entry_at}
use Rattle.follow.proofs.walks.begin.Goals as goal

pub loop-c-init : goal.loop-c-init
loop-c-init c =
    begin_start c.args.lay c.args.z c.args.insts.now c.args.addresses.now c.args.local c.args.work.now _ c.requires.0 c.requires.1 c.requires.2 refl

pub loop-c-smaller : goal.loop-c-smaller
loop-c-smaller c =
    (begin_more c.loop-c.invariant (c.loop-c.c - 1) _ _
    (entry_at c.loop-c.invariant c.well_formed.1.0.1 c.well_formed.1.1.0.1 c.loop-c-test.true).is refl
    c.take-b.ensures refl).1

pub loop-c-preserved : goal.loop-c-preserved
loop-c-preserved c =
    (begin_more c.loop-c.invariant (c.loop-c.c - 1) _ _
    (entry_at c.loop-c.invariant c.well_formed.1.0.1 c.well_formed.1.1.0.1 c.loop-c-test.true).is refl
    c.take-b.ensures refl).0

pub returns : goal.returns
returns c = begin_done c.loop-c.invariant c.loop-c-test.false
