-- `write_items` meets its contract: a row more is written each turn.
use native.Mathlib.Omega.{arith}
use Prim.Native.Nat.{◌+◌}
use mathlib.Core.Path.{refl, sym, ap}
use mathlib.Core.List.{[], ◌∷◌}
use lib.ListN.{get_or}
use Rattle.words.proofs.FlatLaws.{flat_start, flat_done}
use Rattle.answer_rows.specs.declared.Item.{Item}
use Rattle.answer_rows.specs.Inner.{row_of}
use Rattle.answer_rows.proofs.RowLaws.{three_more}
use Rattle.answer_rows.proofs.write_items.Goals as goal

pub loop-i-init : goal.loop-i-init
loop-i-init c = let a = c.args in (flat_start 3 a.n (λ j. row_of (get_or a.w.now (a.from + j) 0)) a.out.now (λ j h. refl) (omega arith))

pub loop-i-preserved : goal.loop-i-preserved
loop-i-preserved c =
    let a = c.args in (three_more a.n (λ j. row_of (get_or a.w.now (a.from + j) 0)) _ _ c.loop-i.i (omega arith) (λ j h. refl) c.loop-i.invariant _ _ _
    (sym (ap (λ (t : Item). t.present ∷ t.first ∷ t.count ∷ []) c.part-t.ensures)))

pub returns : goal.returns
returns c = let a = c.args in flat_done 3 a.n (λ j. row_of (get_or a.w.now (a.from + j) 0)) _ _ _ (λ j h. refl) c.loop-i.invariant (omega arith)
