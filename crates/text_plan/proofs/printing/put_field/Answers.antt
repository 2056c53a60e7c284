-- `put_field` meets its contract.
use native.Mathlib.Omega.{arith}
use mathlib.Core.Path.{◌∙◌}
use lib.ListN.{length-take, length-drop}
use Rattle.text_plan.proofs.PutLaws.{puts_length, field_put}
use Rattle.text_plan.proofs.printing.put_field.Goals as goal

pub put-requires : goal.put-requires
put-requires c =
    let p' = c.requires in
    let h = p' in
    let p = c.put-next.ensures.place in
    let q = c.digits-i.ensures.0 in
    simp (length-take, length-drop) (omega arith)

pub shape_of-out : goal.shape_of-out
shape_of-out c = puts_length c.put.ensures ∙ puts_length c.put-next.ensures

pub returns : goal.returns
returns c =
    let a = c.args in
    field_put _ c.digits-i.result a.n c.digits-i.ensures.0 c.digits-i.auto.buf c.digits-i.ensures.1 c.put-next.ensures c.put.ensures
