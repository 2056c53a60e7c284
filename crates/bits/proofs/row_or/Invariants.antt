-- `bits::row_or` meets its contract: a turn keeps `Done`, and the row's next words are as they were.
use Prim.Native.Nat.{◌+◌}
use lib.Bits.{bit_or}
use lib.ListN.{get_or}
use Rattle.words.proofs.RegionLaws.{Done}
use Rattle.bits.proofs.row_or.Given as goal

abbrev pub invariant-loop-k : goal.invariant-loop-k
invariant-loop-k l = Done l.initial.w l.w l.to l.n (λ i. bit_or (get_or l.initial.w (l.to + i) 0) (get_or l.initial.w (l.from + i) 0)) l.k
