-- `reach` meets its contract.
use Prim.Native.Nat.{◌^◌}
use Prim.Native.Nat.{◌≤◌, ◌<◌}
use Rattle.fit_tables.proofs.samples.reach.Given as goal

abbrev pub invariant-loop-i : goal.invariant-loop-i
invariant-loop-i l = (l.most < 2 ^ 32) × (l.i ≤ l.t.n)
