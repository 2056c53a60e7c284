-- `lower` meets its contract: a row more is written each turn.
use Rattle.capping.proofs.CapLaws.{cap_row, row_was}
use Rattle.words.proofs.FlatLaws.{flat_start, flat_done, two_more}
use Prim.Native.Nat.{ℕ, min}
use native.Mathlib.Omega.{arith}
use mathlib.Core.Path.{refl, ap, ◌∙◌}
use Rattle.capping.proofs.lower.Goals as goal

pub loop-i-init : goal.loop-i-init
loop-i-init c = let a = c.args in (flat_start 2 a.count (cap_row a.cells.now a.most) a.cells.now (λ j h. refl) (omega arith))

pub loop-i-preserved : goal.loop-i-preserved
loop-i-preserved c =
    let a = c.args in (two_more a.count (cap_row a.cells.now a.most) _ _ c.loop-i.i (omega arith) (λ j h. refl) c.loop-i.invariant _ _
    (c.lowered-c.ensures.0 ∙ (row_was a.count c.loop-i.i c.loop-i.invariant).0)
    (c.lowered-c.ensures.1 ∙ ap (λ (x : ℕ). min x a.most) (row_was a.count c.loop-i.i c.loop-i.invariant).1))

pub returns : goal.returns
returns c = let a = c.args in flat_done 2 a.count (cap_row a.cells.now a.most) _ _ _ (λ j h. refl) c.loop-i.invariant (omega arith)
