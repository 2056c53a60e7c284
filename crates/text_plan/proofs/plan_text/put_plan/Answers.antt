-- `put_plan` meets its contract: the lines stand one behind another.
use native.Mathlib.Omega.{arith}
use Prim.Native.Nat.{◌-◌}
use mathlib.Core.Path.{◌∙◌}
use lib.Dec.{lit≤, lit<}
use Rattle.text_plan.proofs.PlanLaws.{whole_of, cells_length, items_length}
use Rattle.text_plan.proofs.PutLaws.{puts_length, puts_then}
use Rattle.words.specs.Widths.{item_row_count}
use Rattle.text_plan.proofs.plan_text.put_plan.Goals as goal

pub put_cells-a-requires : goal.put_cells-a-requires
put_cells-a-requires c =
    let a = c.args in
    let p = c.requires in
    (lit< tt, (let w = whole_of a.cells.now a.items.now a.areas.now a.locals p in let f = w.few in let e = w.enough in omega arith))

pub put_items-b-requires : goal.put_items-b-requires
put_items-b-requires c =
    let a' = c.args in
    let p = c.requires in (
      (let w = whole_of a'.cells.now a'.items.now a'.areas.now a'.locals p in let f = w.few in let e = w.enough in let a = c.put_cells-a.ensures.place in
          let x = cells_length a'.cells.now in omega arith),
      (let w = whole_of a'.cells.now a'.items.now a'.areas.now a'.locals p in let f = w.few in let e = w.locals_in in omega arith),
      lit≤ tt,
      (let w = whole_of a'.cells.now a'.items.now a'.areas.now a'.locals p in let e = w.locals_in in omega arith),
    )

pub overflow_sub-n : goal.overflow_sub-n
overflow_sub-n c =
    let a = c.args in
    let p = c.requires in
    let w = whole_of a.cells.now a.items.now a.areas.now a.locals p in
    let e = w.locals_in in
    omega arith

pub put_items-c-requires : goal.put_items-c-requires
put_items-c-requires c =
    let a' = c.args in
    let p = c.requires in (
      (let w = whole_of a'.cells.now a'.items.now a'.areas.now a'.locals p in let f = w.few in let e = w.enough in let g = w.locals_in in let a =
          c.put_cells-a.ensures.place in let x = cells_length a'.cells.now in let b = c.put_items-b.ensures.place in let y = items_length 76 a'.items.now 0
          a'.locals in omega arith),
      (let w = whole_of a'.cells.now a'.items.now a'.areas.now a'.locals p in let f = w.few in omega arith),
      (let w = whole_of a'.cells.now a'.items.now a'.areas.now a'.locals p in let f = w.few in let e = w.locals_in in omega arith),
      (let w = whole_of a'.cells.now a'.items.now a'.areas.now a'.locals p in let e = w.locals_in in omega arith),
    )

pub put_shared-d-requires : goal.put_shared-d-requires
put_shared-d-requires c =
    let a' = c.args in
    let p = c.requires in (
      (let w = whole_of a'.cells.now a'.items.now a'.areas.now a'.locals p in let f = w.few in let e = w.enough in let g = w.locals_in in let a =
          c.put_cells-a.ensures.place in let x = cells_length a'.cells.now in let b = c.put_items-b.ensures.place in let y = items_length 76 a'.items.now 0
          a'.locals in let d = c.put_items-c.ensures.place in let z = items_length 83 a'.items.now a'.locals (item_row_count a'.items.now - a'.locals) in omega
          arith),
      (let w = whole_of a'.cells.now a'.items.now a'.areas.now a'.locals p in let f = w.few in let e = w.locals_in in omega arith),
      (let w = whole_of a'.cells.now a'.items.now a'.areas.now a'.locals p in w.ranges),
      p,
    )

pub overflow_sub-ns : goal.overflow_sub-ns
overflow_sub-ns c =
    let a = c.args in
    let p = c.requires in
    let w = whole_of a.cells.now a.items.now a.areas.now a.locals p in
    let e = w.enough in
    omega arith

pub put_line-requires : goal.put_line-requires
put_line-requires c =
    let a' = c.args in
    let p = c.requires in (
      (let w = whole_of a'.cells.now a'.items.now a'.areas.now a'.locals p in let f = w.few in let e = w.enough in let g = w.locals_in in let s =
          c.put_shared-d.ensures.1 in let a = c.put_cells-a.ensures.place in let x = cells_length a'.cells.now in let b = c.put_items-b.ensures.place in let y =
          items_length 76 a'.items.now 0 a'.locals in let d = c.put_items-c.ensures.place in let z = items_length 83 a'.items.now a'.locals
          (item_row_count a'.items.now - a'.locals) in omega arith),
      lit≤ tt,
    )

pub shape_of-out : goal.shape_of-out
shape_of-out c =
    puts_length c.put_line.ensures ∙ puts_length c.put_shared-d.ensures.0 ∙ puts_length c.put_items-c.ensures ∙ puts_length c.put_items-b.ensures ∙
    puts_length c.put_cells-a.ensures

pub returns : goal.returns
returns c =
    puts_then c.put_cells-a.ensures
    (puts_then c.put_items-b.ensures (puts_then c.put_items-c.ensures (puts_then c.put_shared-d.ensures.0 c.put_line.ensures)))
