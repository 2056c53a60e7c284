-- `preparing::cross` meets its contract: the first k crossings are marked.
use lib.ListN.{length, get_or}
use lib.Dec.{ltb}
use Rattle.reach.proofs.MarkLaws.{Marking}
use Rattle.preparing.proofs.cross.Given as goal

abbrev pub invariant-loop-r : goal.invariant-loop-r
invariant-loop-r l = Marking l.initial.work l.work l.row l.v (λ j. ltb (get_or l.crossings j 0) l.v) (λ j. get_or l.crossings j 0) (length l.crossings) l.r-index
