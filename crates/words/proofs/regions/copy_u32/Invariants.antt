-- `words::regions::copy_u32` meets its contract: a turn keeps `Done`.
use Rattle.words.proofs.RegionLaws.{Done}
use Prim.Native.Nat.{◌+◌}
use lib.ListN.{get_or}
use Rattle.words.proofs.regions.copy_u32.Given as goal

abbrev pub invariant-loop-i : goal.invariant-loop-i
invariant-loop-i l = Done l.initial.w l.w l.to l.n (λ k. get_or l.s (l.from + k) 0) l.i
