-- `put_line` meets its contract: a field more is written each turn.
use native.Mathlib.Omega.{arith}
use mathlib.Core.Path.{◌∙◌}
use Rattle.text_plan.proofs.PutLaws.{puts_length, fields_start, fields_more, fields_near, line_put}
use Rattle.text_plan.proofs.printing.put_line.Goals as goal

pub loop-n-init : goal.loop-n-init
loop-n-init c = (omega arith, fields_start c.args.ns.now _ _)

pub put_field-next-requires : goal.put_field-next-requires
put_field-next-requires c =
    let a = c.args in
    let p' = c.requires in
    let g = fields_near a.ns.now c.loop-n.n-index c.loop-n.invariant.1 p'.1 in
    let p = c.put-next.ensures.place in
    let h = p'.0 in
    omega arith

pub loop-n-preserved : goal.loop-n-preserved
loop-n-preserved c =
    let a = c.args in
    (omega arith, fields_more a.ns.now c.loop-n.n-index c.loop-n.invariant.1 (omega arith) c.put_field-next.ensures)

pub put-requires : goal.put-requires
put-requires c =
    let a = c.args in
    let p' = c.requires in
    let g = fields_near a.ns.now c.loop-n.n-index c.loop-n.invariant.1 p'.1 in
    let p = c.put-next.ensures.place in
    let h = p'.0 in
    omega arith

pub shape_of-out : goal.shape_of-out
shape_of-out c =
    puts_length c.put.ensures ∙ puts_length c.loop-n.invariant.1 ∙ puts_length c.put-next.ensures

pub returns : goal.returns
returns c =
    let a = c.args in
    line_put a.ns.now c.loop-n.n-index c.loop-n.invariant.1 (omega arith) c.put-next.ensures c.put.ensures
