-- `put` meets its contract: an instruction's row, or the numbers alone.
use native.Mathlib.Omega.{arith}
use Prim.Native.Nat.{ℕ, ◌+◌, ◌≤◌}
use mathlib.Core.Path.{◌≡◌}
use lib.ListN.{length}
use Rattle.text_lines.proofs.PutLaws.{plain_row, inst_is, plain_is}
use Rattle.text_lines.specs.Inner.{Meant}
use Rattle.text_grammar.specs.Groups.{group_at, inst_group}
use Rattle.text_lines.proofs.job_rows.put.Goals as goal

pub put_inst-requires : goal.put_inst-requires
put_inst-requires c =
    let a = c.args in
    let p' = c.requires in
    let w : (k : ℕ) → k ≡ inst_group → Meant k a.fields.now × (a.at + (group_at k).width ≤ length a.rows.now) → Meant 3 a.fields.now ×
    (a.at + 9 ≤ length a.rows.now) = (λ k e p. rw e at p) in w a.k c.if-k-eq-INSTS.true p'

pub returns-then-k-eq-INSTS : goal.returns-then-k-eq-INSTS
returns-then-k-eq-INSTS c =
    let a = c.args in
    inst_is a.k a.fields.now _ _ _ c.if-k-eq-INSTS.true c.put_inst.ensures

pub put_numbers-requires : goal.put_numbers-requires
put_numbers-requires c =
    let a = c.args in (
      c.requires.0,
      c.entry_of.ensures.fields,
      (let h = c.requires.1 in let w = (plain_row a.k a.fields.now c.requires.0.group c.if-k-eq-INSTS.false).1 in let e = c.entry_of.ensures.fields in omega arith),
    )

pub returns : goal.returns
returns c =
    let a = c.args in
    let p = c.requires in
    plain_is a.k a.fields.now _ _ _ _ (plain_row a.k a.fields.now p.0.group c.if-k-eq-INSTS.false) c.entry_of.ensures.fields c.put_numbers.ensures
