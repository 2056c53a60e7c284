-- `area_rows::locals::turn_row` meets its contract: the words before i are turned.
use Rattle.words.proofs.RegionLaws.{row_before}
use Rattle.row_turns.proofs.TurnLaws.{row_start, row_fits, row_in, row_word, row_more, row_done}
use native.Mathlib.Omega.{arith}
use Prim.Native.Nat.{◌-◌}
use mathlib.Core.Path.{refl}
use Rattle.row_turns.proofs.turn_row.Goals as goal

pub loop-i-init : goal.loop-i-init
loop-i-init c = row_start _ c.requires.0 c.requires.1

pub scatter-requires : goal.scatter-requires
scatter-requires c =
    (row_fits c.loop-i.invariant, row_word c.loop-i.invariant (omega arith) _ refl)

pub loop-i-preserved : goal.loop-i-preserved
loop-i-preserved c = row_more c.loop-i.invariant (omega arith) _ refl c.scatter.ensures

pub returns : goal.returns
returns c = row_done c.loop-i.invariant (omega arith)
