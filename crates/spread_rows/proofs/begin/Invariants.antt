-- `spread::rows::begin` meets its contract: the first r ranks wait.
use Rattle.spread_rows.proofs.Turns.{Beginning}
use Rattle.spread_rows.proofs.begin.Given as goal

abbrev pub invariant-loop-r : goal.invariant-loop-r
invariant-loop-r l = Beginning l.s.n l.s.wait l.s.words l.initial.work l.work l.r
