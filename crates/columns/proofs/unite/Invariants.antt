-- `unite` meets its contract: the earlier front is taken up until both lists are over.
use Prim.Native.Nat.{◌+◌, ◌-◌}
use lib.ListN.{length}
use Rattle.columns.proofs.UniteLaws.{UnitingTo}
use Rattle.columns.proofs.unite.Given as goal

abbrev pub invariant-loop-i : goal.invariant-loop-i
invariant-loop-i l =
    UnitingTo l.start l.end l.other_start l.other_end l.initial.out_start l.initial.out_end l.out_start l.out_end l.i l.j l.k

abbrev pub decreases-loop-i : goal.decreases-loop-i
decreases-loop-i l = length l.start + length l.other_start - (l.i + l.j)
