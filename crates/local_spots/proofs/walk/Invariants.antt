-- `local_spots::walk` meets its contract: the words of the rows behind the next one stand.
use Rattle.words.specs.Rows.{row_count, field}
use Rattle.chains.proofs.WalkLaws.{Walking}
use Rattle.local_spots.specs.Inner.{word_of}
use Prim.Native.Nat.{◌-◌}
use Rattle.local_spots.proofs.walk.Given as goal

abbrev pub invariant-loop-next : goal.invariant-loop-next
invariant-loop-next l = Walking (λ i. field l.width l.rows i 0) (λ i. word_of l.width (field l.width l.rows i)) (row_count l.width l.rows) l.l l.nexts l.top l.initial.work l.work l.next l.to

abbrev pub decreases-loop-next : goal.decreases-loop-next
decreases-loop-next l = l.next
