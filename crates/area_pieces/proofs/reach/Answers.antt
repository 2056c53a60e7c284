-- `reach` meets its contract: the blocks from k up to e have the bit.
use native.Mathlib.Omega.{arith}
use Prim.Native.Nat.{◌+◌, ◌*◌, ◌/◌}
use mathlib.Core.Path.{◌≡◌, sym, ◌∙◌}
use Rattle.area_pieces.proofs.RunLaws.{owned_first, owned_more, run_owned}
use Rattle.area_pieces.proofs.reach.Goals as goal

pub loop-e-init : goal.loop-e-init
loop-e-init c = (omega arith, omega arith, omega arith, owned_first c.args.s c.args.work.now c.args.k c.requires.3)

pub loop-e-preserved : goal.loop-e-preserved
loop-e-preserved c = (
  c.loop-e.invariant.0,
  omega arith,
  omega arith,
  owned_more c.args.s c.args.work.now c.args.k c.loop-e.e c.loop-e.invariant.3 (sym c.test.ensures ∙ c.if-not-test.false),
)

pub returns-then-not-test : goal.returns-then-not-test
returns-then-not-test c =
    run_owned c.args.s c.args.work.now c.args.k c.loop-e.e c.loop-e.invariant.1 (omega arith) c.loop-e.invariant.3

pub returns : goal.returns
returns c =
    let at_end : c.args.k / 64 * 64 + 64 ≡ c.loop-e.e = omega arith in
    rw at_end (run_owned c.args.s c.args.work.now c.args.k c.loop-e.e c.loop-e.invariant.1 (omega arith) c.loop-e.invariant.3)
