-- `crowded` meets its contract: counted, then picked.
use lib.ListN.{get_or-replicate}
use native.Mathlib.Omega.{arith}
use Rattle.members.proofs.crowded.Goals as goal

pub count-requires : goal.count-requires
count-requires c = (omega arith, λ i h. c.requires.2 i h, λ i h. get_or-replicate 4096 i 0 0 h)

pub pick-requires : goal.pick-requires
pick-requires c = (c.count.ensures, omega arith, omega arith, omega arith)
