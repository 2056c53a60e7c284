-- `spread::rows::spread` meets its contract: each place that does not wait has sent what it has.
use Prim.Native.Nat.{◌+◌, ◌*◌, ◌/◌}
use Rattle.spread_rows.specs.Inner.{missing, waiting}
use Rattle.spread_rows.proofs.Turns.{Spreading}
use Rattle.bits.specs.Inner.{FirstSet}
use Rattle.spread_rows.proofs.spread.Given as goal

abbrev pub invariant-loop-r : goal.invariant-loop-r
invariant-loop-r l = Spreading l.s l.initial.work l.work × FirstSet l.work l.s.wait (l.s.n / 64 + 1) 0 l.r

abbrev pub decreases-loop-r : goal.decreases-loop-r
decreases-loop-r l = missing l.s l.work * (l.s.n + 1) + waiting l.s l.work
