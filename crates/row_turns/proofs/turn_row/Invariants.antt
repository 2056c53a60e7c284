-- `area_rows::locals::turn_row` meets its contract: the words before i are turned.
use Rattle.row_turns.proofs.TurnLaws.{Rowing}
use Prim.Native.Nat.{◌-◌}
use Rattle.row_turns.proofs.turn_row.Given as goal

abbrev pub invariant-loop-i : goal.invariant-loop-i
invariant-loop-i l = Rowing l.fn.t l.k l.initial.work l.work l.i
