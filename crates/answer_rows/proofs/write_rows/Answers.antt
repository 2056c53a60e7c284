-- `write_rows` meets its contract: a row more is written each turn.
use native.Mathlib.Omega.{arith}
use Prim.Native.Nat.{◌+◌, ◌-◌}
use mathlib.Core.Path.{refl}
use lib.ListN.{get_or}
use Rattle.words.proofs.FlatLaws.{flat_start, flat_done, two_more}
use Rattle.answer_rows.specs.Inner.{halves}
use Rattle.answer_rows.proofs.write_rows.Goals as goal

pub loop-i-init : goal.loop-i-init
loop-i-init c = let a = c.args in (flat_start 2 a.n (λ j. halves (get_or a.w.now (a.from + j) 0 - a.less)) a.out.now (λ j h. refl) (omega arith))

pub loop-i-preserved : goal.loop-i-preserved
loop-i-preserved c =
    let a = c.args in
    (two_more a.n (λ j. halves (get_or a.w.now (a.from + j) 0 - a.less)) _ _ c.loop-i.i (omega arith) (λ j h. refl) c.loop-i.invariant _ _ refl refl)

pub returns : goal.returns
returns c = let a = c.args in flat_done 2 a.n (λ j. halves (get_or a.w.now (a.from + j) 0 - a.less)) _ _ _ (λ j h. refl) c.loop-i.invariant (omega arith)
