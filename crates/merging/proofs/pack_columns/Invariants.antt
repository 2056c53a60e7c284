-- `pack_columns` meets its contract: one word more a turn.
use lib.ListN.{length, get_or}
use Rattle.words.proofs.RegionLaws.{Done}
use Rattle.ranges.specs.Points.{range}
use Rattle.ranges.specs.Inner.{pack}
use Rattle.merging.proofs.pack_columns.Given as goal

abbrev pub invariant-loop-i : goal.invariant-loop-i
invariant-loop-i l = Done l.initial.w l.w 0 (length l.start) (λ k. pack (range (get_or l.start k 0) (get_or l.end k 0))) l.i
