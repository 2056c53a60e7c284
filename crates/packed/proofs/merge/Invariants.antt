-- `merge` meets its contract: the words are sorted, and joined in place.
use Rattle.packed.proofs.PackedLaws.{Joining}
use Rattle.packed.proofs.merge.Given as goal

abbrev pub invariant-loop-i : goal.invariant-loop-i
invariant-loop-i l = Joining l.initial.w l.w l.at l.n l.i l.k
