-- `flow::rows::run_end` meets its contract: the places from i up to j are of component c.
use native.Mathlib.Omega.{arith}
use Rattle.flow_rows.proofs.Runs.{run_start, run_more, run_stops, run_ends}
use mathlib.Core.Path.{◌≡◌, subst}
use Prim.Native.Nat.{ℕ}
use Rattle.flow_rows.specs.Inner.{Run}
use Rattle.flow_rows.proofs.run_end.Goals as goal

pub loop-j-init : goal.loop-j-init
loop-j-init c = run_start c.args.f c.args.work.now c.requires.1 c.requires.2 c.requires.3

pub loop-j-preserved : goal.loop-j-preserved
loop-j-preserved c = run_more c.loop-j.invariant c.loop-j-test.true c.if-work-f.false

pub returns-then-work-f : goal.returns-then-work-f
returns-then-work-f c = run_stops c.args.f c.requires.1 c.loop-j.invariant c.if-work-f.true

pub returns : goal.returns
returns c =
    let last : c.loop-j.j ≡ c.args.f.n = omega arith in
    subst (λ (y : ℕ). Run c.args.f c.args.work.now c.args.i y c.args.c) last (run_ends c.args.f c.requires.1 c.loop-j.invariant c.loop-j-test.false)
