-- `unmark` meets its contract: a word, or bit by bit.
use Prim.Native.Nat.{◌≤◌}
use Rattle.area_pieces.specs.Inner.{Taken}
use Rattle.area_pieces.proofs.unmark.Given as goal

abbrev pub invariant-loop-c : goal.invariant-loop-c
invariant-loop-c l = (l.c ≤ l.e) × Taken l.s l.k l.c l.initial.work l.work
