-- `flow::rows::flowed` meets its contract: the rows of the first i places of the order are final.
use Prim.Native.Nat.{◌-◌}
use Rattle.flow_rows.proofs.Whole.{Flowing}
use Rattle.flow_rows.proofs.flowed.Given as goal

abbrev pub invariant-loop-i : goal.invariant-loop-i
invariant-loop-i l = Flowing l.f l.initial.work l.work l.i

abbrev pub decreases-loop-i : goal.decreases-loop-i
decreases-loop-i l = l.f.n - l.i
