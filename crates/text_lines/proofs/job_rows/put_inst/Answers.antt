-- `put_inst` meets its contract: the numbers, and a flag and a 0 around them.
use native.Mathlib.Omega.{arith}
use mathlib.Core.Path.{refl, sym, ap}
use lib.ListN.{length-set}
use borrow.Author.Tests.{eq-eqb, ne_eqb}
use mathlib.Core.Bool.{Bool, cond}
use Rattle.text_lines.proofs.PutLaws.{inst_region}
use Rattle.text_lines.proofs.job_rows.put_inst.Goals as goal

pub put_numbers-requires : goal.put_numbers-requires
put_numbers-requires c = (c.requires.0, refl, (let h = c.requires.1 in omega arith))

pub bounds-rows-at-then-fields-eq-DASH : goal.bounds-rows-at-then-fields-eq-DASH
bounds-rows-at-then-fields-eq-DASH c = simp length-set (let h = c.requires.1 in let l = c.put_numbers.ensures.len in omega arith)

pub shape_of-rows-then-fields-eq-DASH : goal.shape_of-rows-then-fields-eq-DASH
shape_of-rows-then-fields-eq-DASH c = simp length-set c.put_numbers.ensures.len

pub returns-then-fields-eq-DASH : goal.returns-then-fields-eq-DASH
returns-then-fields-eq-DASH c =
    let a = c.args in
    let p = c.requires in
    inst_region a.fields.now a.rows.now _ a.at p.0.enough p.1 c.put_numbers.ensures 0
    (sym (ap (λ (t : Bool). cond t 0 1) (eq-eqb _ _ c.if-fields-eq-DASH.true)))

pub bounds-rows-at-2 : goal.bounds-rows-at-2
bounds-rows-at-2 c = simp length-set (let h = c.requires.1 in let l = c.put_numbers.ensures.len in omega arith)

pub shape_of-rows : goal.shape_of-rows
shape_of-rows c = simp length-set c.put_numbers.ensures.len

pub returns : goal.returns
returns c =
    let a = c.args in
    let p = c.requires in
    inst_region a.fields.now a.rows.now _ a.at p.0.enough p.1 c.put_numbers.ensures 1 (sym (ap (λ (t : Bool). cond t 0 1) (ne_eqb _ _ c.if-fields-eq-DASH.false)))
