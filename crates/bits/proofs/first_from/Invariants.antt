-- `bits::first_from` meets its contract: a turn keeps `Unset`.
use Rattle.bits.proofs.BitLaws.{Unset}
use Rattle.bits.proofs.first_from.Given as goal

abbrev pub invariant-loop-k : goal.invariant-loop-k
invariant-loop-k l = Unset l.w l.base l.n l.start l.k
