-- `own_cells` meets its contract: a row more is written each turn.
use Rattle.apart.proofs.ApartLaws.{cell_wide, own_local, own_slot}
use native.Mathlib.Nat.{add-zero}
use mathlib.Core.List.{List, [], ◌∷◌}
use Rattle.words.specs.Widths.{local_count, slot_count}
use Rattle.words.proofs.FlatLaws.{flat_start, flat_done, two_more}
use Rattle.apart.specs.Inner.{own_cell}
use native.Mathlib.Omega.{arith}
use Prim.Native.Nat.{ℕ, ◌+◌, ◌-◌, ◌*◌}
use mathlib.Core.Path.{◌≡◌, sym, ap, ◌∙◌}
use lib.ListN.{get_or}
use Rattle.apart.proofs.own_cells.Goals as goal

pub loop-i-init : goal.loop-i-init
loop-i-init c = let a = c.args in flat_start 2 (local_count a.locals.now + slot_count a.slots.now) (own_cell a.locals.now a.slots.now) a.cells.now (cell_wide a.locals.now a.slots.now) (omega arith)

pub loop-i-preserved : goal.loop-i-preserved
loop-i-preserved c =
    let a = c.args in
    let row = own_local a.locals.now a.slots.now c.loop-i.i (omega arith) in
    two_more (local_count a.locals.now + slot_count a.slots.now) (own_cell a.locals.now a.slots.now) _ _ c.loop-i.i (omega arith) (cell_wide a.locals.now a.slots.now) c.loop-i.invariant _ _
    (ap (λ (k : ℕ). get_or a.locals.now k 0) (sym (add-zero (2 * c.loop-i.i))) ∙ sym (ap (λ (l : List ℕ). get_or l 0 0) row)) (sym (ap (λ (l : List ℕ). get_or l 1 0) row))

pub loop-s-preserved : goal.loop-s-preserved
loop-s-preserved c =
    let a = c.args in
    let i = local_count a.locals.now + c.loop-s.s in
    let s : i - local_count a.locals.now ≡ c.loop-s.s = omega arith in
    let next : 2 * (local_count a.locals.now + (c.loop-s.s + 1)) ≡ 2 * (i + 1) = omega arith in
    let row = own_slot a.locals.now a.slots.now i (omega arith) ∙ ap (λ (k : ℕ). get_or a.slots.now k 0 ∷ get_or a.slots.now k 0 ∷ []) s in
    rw next (two_more (local_count a.locals.now + slot_count a.slots.now) (own_cell a.locals.now a.slots.now) _ _ i (omega arith) (cell_wide a.locals.now a.slots.now) c.loop-s.invariant _ _
    (sym (ap (λ (l : List ℕ). get_or l 0 0) row)) (sym (ap (λ (l : List ℕ). get_or l 1 0) row)))

pub returns : goal.returns
returns c = let a = c.args in flat_done 2 (local_count a.locals.now + slot_count a.slots.now) (own_cell a.locals.now a.slots.now) _ _ _ (cell_wide a.locals.now a.slots.now) c.loop-s.invariant (omega arith)
