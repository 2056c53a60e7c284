-- `job_marks::mark_all` meets its contract: the first l locals are marked.
use native.Mathlib.Omega.{arith}
use Prim.Native.Nat.{ℕ, ◌+◌, ◌-◌, ◌<◌}
use Rattle.job_marks.proofs.SweepLaws.{sweep_start, sweep_ready, sweep_more, sweep_done}
use Rattle.job_marks.proofs.mark_all.Goals as goal

less : (l n : ℕ) → l < n → n - (l + 1) < n - l
less l n h = omega arith

pub loop-l-init : goal.loop-l-init
loop-l-init c = sweep_start c.requires c.clear_marks.ensures

pub mark_one-requires : goal.mark_one-requires
mark_one-requires c = (sweep_ready c.loop-l.invariant, c.loop-l-test.true)

pub loop-l-preserved : goal.loop-l-preserved
loop-l-preserved c = sweep_more c.loop-l.invariant c.loop-l-test.true c.mark_one.ensures

pub returns : goal.returns
returns c = sweep_done c.requires c.clear_marks.ensures c.loop-l.invariant c.loop-l-test.false
