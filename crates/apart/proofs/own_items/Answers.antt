-- `own_items` meets its contract: a row more is written each turn.
use mathlib.Core.List.{[], ◌∷◌}
use Rattle.words.proofs.FlatLaws.{flat_start, flat_done, four_more}
use native.Mathlib.Omega.{arith}
use mathlib.Core.Path.{refl}
use Rattle.apart.proofs.own_items.Goals as goal

pub loop-i-init : goal.loop-i-init
loop-i-init c = let a = c.args in (flat_start 4 a.n (λ j. j ∷ 0 ∷ 0 ∷ 0 ∷ []) a.items.now (λ j h. refl) (omega arith))

pub loop-i-preserved : goal.loop-i-preserved
loop-i-preserved c = let a = c.args in (four_more a.n (λ j. j ∷ 0 ∷ 0 ∷ 0 ∷ []) _ _ c.loop-i.i (omega arith) (λ j h. refl) c.loop-i.invariant _ _ _ _ refl)

pub returns : goal.returns
returns c = let a = c.args in flat_done 4 a.n (λ j. j ∷ 0 ∷ 0 ∷ 0 ∷ []) _ _ _ (λ j h. refl) c.loop-i.invariant (omega arith)
