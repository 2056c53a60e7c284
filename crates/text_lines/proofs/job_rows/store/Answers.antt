-- `store` meets its contract: the row behind those of its group, and an operand counted.
use native.Mathlib.Omega.{arith}
use Prim.Native.Nat.{ℕ, ◌*◌}
use mathlib.Core.Path.{refl, ap, ◌∙◌}
use lib.ListN.{length, get_or, length-set}
use Rattle.text_lines.proofs.StoreLaws.{row_room, last_fine, put_operand, put_plain, placed_at}
use Rattle.text_lines.proofs.job_rows.store.Goals as goal

pub put-requires : goal.put-requires
put-requires c =
    let p = c.requires in
    let a = c.args in (
      p.meant,
      (let w = ap (λ (x : ℕ). x * get_or a.counts.now a.k 0) c.entry_of-e.ensures.width in let b = c.entry_of-e.ensures.base in let r = row_room p in let l = p.rows_length
          in omega arith),
    )

pub raise-requires : goal.raise-requires
raise-requires c =
    let p = c.requires in
    let a = c.args in
    last_fine p c.if-k-eq-OPERANDS.true _ (placed_at a.k (get_or a.counts.now a.k 0) _ _ _ c.entry_of-e.ensures.base c.entry_of-e.ensures.width refl c.put.ensures)
    _ refl

pub shape_of-rows-then-k-eq-OPERANDS : goal.shape_of-rows-then-k-eq-OPERANDS
shape_of-rows-then-k-eq-OPERANDS c = ap length c.raise.ensures ∙ simp length-set c.put.ensures.len

pub shape_of-counts-then-k-eq-OPERANDS : goal.shape_of-counts-then-k-eq-OPERANDS
shape_of-counts-then-k-eq-OPERANDS c = simp length-set

pub returns-then-k-eq-OPERANDS : goal.returns-then-k-eq-OPERANDS
returns-then-k-eq-OPERANDS c =
    let p = c.requires in
    let a = c.args in
    put_operand p c.if-k-eq-OPERANDS.true _
    (placed_at a.k (get_or a.counts.now a.k 0) _ _ _ c.entry_of-e.ensures.base c.entry_of-e.ensures.width refl c.put.ensures) _ refl c.raise.ensures
    refl

pub shape_of-counts : goal.shape_of-counts
shape_of-counts c = simp length-set

pub returns : goal.returns
returns c =
    let p = c.requires in
    let a = c.args in
    put_plain p c.if-k-eq-OPERANDS.false _ (placed_at a.k (get_or a.counts.now a.k 0) _ _ _ c.entry_of-e.ensures.base c.entry_of-e.ensures.width refl c.put.ensures) refl
