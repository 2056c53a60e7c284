-- `area_rows::locals::by_local` meets its contract: the places before k are turned.
use Rattle.row_turns.proofs.TurnLaws.{Turning}
use Prim.Native.Nat.{◌-◌}
use Rattle.row_turns.proofs.by_local.Given as goal

abbrev pub invariant-loop-k : goal.invariant-loop-k
invariant-loop-k l = Turning l.t l.initial.work l.work l.k
