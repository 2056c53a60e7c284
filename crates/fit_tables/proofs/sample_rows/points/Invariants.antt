-- `points` meets its contract: a bit is set where the point is between the ends of a range.
use Rattle.words.specs.Inner.{part}
use Rattle.ranges.specs.Inner.{unpacked}
use Rattle.fit_tables.specs.Inner.{Pointed}
use Prim.Native.Nat.{◌+◌, ◌-◌, ◌*◌, ◌≤◌}
use Rattle.fit_tables.proofs.sample_rows.points.Given as goal

abbrev pub invariant-loop-t : goal.invariant-loop-t
invariant-loop-t l = (l.i ≤ l.count) × Pointed l.initial.w l.w l.row.at l.row.width l.row.step (unpacked (part l.from l.count l.initial.w)) l.last

abbrev pub decreases-loop-t : goal.decreases-loop-t
decreases-loop-t l = (l.row.width * 64 - l.t) + (l.count - l.i)
