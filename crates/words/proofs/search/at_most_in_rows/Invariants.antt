-- `words::search::at_most_in_rows` meets its contract: a turn keeps `Between`.
use Rattle.words.proofs.SearchLaws.{Between}
use Rattle.words.specs.Rows.{field}
use lib.Dec.{leb}
use Prim.Native.Nat.{◌+◌}
use Rattle.words.proofs.search.at_most_in_rows.Given as goal

abbrev pub invariant-loop-left : goal.invariant-loop-left
invariant-loop-left l = Between (λ i. leb (field l.width l.s i l.f) l.point) l.n l.lo (l.lo + l.left)

abbrev pub decreases-loop-left : goal.decreases-loop-left
decreases-loop-left l = l.left
