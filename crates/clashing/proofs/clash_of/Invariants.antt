-- `clash_of` meets its contract: what is skipped changes nothing.
use Prim.Native.Nat.{◌+◌, ◌-◌, ◌≤◌}
use mathlib.Core.Path.{◌≡◌}
use lib.ListN.{length}
use Rattle.ranges.proofs.SkipLaws.{Searching}
use Rattle.clashing.proofs.clash_of.Given as goal

abbrev pub invariant-loop-i : goal.invariant-loop-i
invariant-loop-i g l =
    (l.n ≡ length (g.A.Listed.list l.one)) × (l.m ≡ length (g.B.Listed.list l.two)) × (l.i ≤ l.n) × (l.j ≤ l.m)
    × Searching (g.A.Listed.list l.one) (g.B.Listed.list l.two) l.i l.j

abbrev pub decreases-loop-i : goal.decreases-loop-i
decreases-loop-i g l = (l.n - l.i) + (l.m - l.j)
