-- `unite` meets its contract: the earlier front is taken up until both lists are over.
use Prim.Native.Nat.{◌+◌, ◌-◌}
use mathlib.Core.Path.{◌≡◌}
use Rattle.packed_pairs.proofs.UnitedLaws.{UnitingIn}
use Rattle.packed_pairs.proofs.unite.Given as goal

abbrev pub invariant-loop-i : goal.invariant-loop-i
invariant-loop-i l = (l.total ≡ l.n + l.m) × UnitingIn l.initial.w l.one l.n l.two l.m l.to l.w l.i l.j l.k

abbrev pub decreases-loop-i : goal.decreases-loop-i
decreases-loop-i l = l.n + l.m - (l.i + l.j)
