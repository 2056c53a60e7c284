-- `insts::checks::address` meets its contract: no address before i is refused.
use native.Mathlib.Omega.{arith}
use mathlib.Core.Path.{sym, ◌∙◌}
use Rattle.refusals.proofs.Laws.{scan_none, scan_miss, scan_hit, scan_end}
use Rattle.insts.proofs.CheckLaws.{address_is, mentions_length}
use mathlib.Core.List.{[]}
use Rattle.insts.proofs.checks.address.Goals as goal

pub loop-i-init : goal.loop-i-init
loop-i-init c = (omega arith, omega arith, scan_none _ _)

pub returns-then-unplaced : goal.returns-then-unplaced
returns-then-unplaced c =
    sym (scan_hit _ _ _ _ c.loop-i.invariant.2
    (address_is (c.args.insts.now) [] (c.args.addresses.now) c.loop-i.i c.unplaced.result (omega arith) c.unplaced.ensures ∙ c.if-unplaced.true)
    (omega (arith, mentions_length (c.args.insts.now) [] (c.args.addresses.now))))

pub loop-i-preserved : goal.loop-i-preserved
loop-i-preserved c = (
  omega arith,
  omega arith,
  scan_miss _ _ _ c.loop-i.invariant.2
      (address_is (c.args.insts.now) [] (c.args.addresses.now) c.loop-i.i c.unplaced.result (omega arith) c.unplaced.ensures ∙ c.if-unplaced.false),
)

pub returns : goal.returns
returns c =
    sym (scan_end _ _ _ _ c.loop-i.invariant.2 (omega (arith, mentions_length (c.args.insts.now) [] (c.args.addresses.now)))
    (omega (arith, mentions_length (c.args.insts.now) [] (c.args.addresses.now))))
