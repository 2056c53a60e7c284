-- `area_rows::locals::by_local` meets its contract: the places before k are turned.
use Rattle.row_turns.proofs.TurnLaws.{turn_start, turn_ready, turn_more, turn_done}
use native.Mathlib.Omega.{arith}
use Prim.Native.Nat.{◌-◌}
use Rattle.row_turns.proofs.by_local.Goals as goal

pub loop-k-init : goal.loop-k-init
loop-k-init c = turn_start (c.requires)

pub loop-k-preserved : goal.loop-k-preserved
loop-k-preserved c = turn_more c.loop-k.invariant (omega arith) c.turn_row.ensures

pub returns : goal.returns
returns c = turn_done c.loop-k.invariant (omega arith)
