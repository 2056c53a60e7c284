-- `each` meets its contract: the tables hold the plan of the places passed, and the rows its sample points.
use Rattle.fit_cells.proofs.EachLaws.{going_start, lent_in, order_in_lem, cells_in, low_in, low_in_row, row_in, ready_drawn, sure_drawn, order_in_put, cell_in_put, end_put, going_more, going_done}
use native.Mathlib.Omega.{arith}
use Rattle.fit_cells.proofs.each.Goals as goal

pub loop-k-init : goal.loop-k-init
loop-k-init c =
    going_start c.requires.0 c.requires.1 c.requires.2

pub draw-own-requires : goal.draw-own-requires
draw-own-requires c =
    let S = c.loop-k.invariant in
    let h = c.loop-k-test.true in
    (lent_in S h, order_in_lem S h, h, low_in_row S h, row_in S h, S.grid.narrow, S.grid.some_step, S.grid.step_le)

pub put-next-requires : goal.put-next-requires
put-next-requires c =
    (ready_drawn c.loop-k.invariant c.loop-k-test.true c.draw-own.ensures, sure_drawn c.loop-k.invariant c.loop-k-test.true c.draw-own.ensures)

pub join_row-requires : goal.join_row-requires
join_row-requires c =
    let S = c.loop-k.invariant in
    let h = c.loop-k-test.true in
    let D = c.draw-own.ensures in
    let P = c.put-next.ensures in
    (low_in S h, end_put S h D P, h, cells_in S h, order_in_put S h D P, cell_in_put S h D P)

pub loop-k-preserved : goal.loop-k-preserved
loop-k-preserved c =
    going_more c.loop-k.invariant c.loop-k-test.true c.draw-own.ensures c.put-next.ensures c.join_row.ensures

pub returns : goal.returns
returns c = going_done c.loop-k.invariant (omega arith)
