-- `solve` meets its contract: live pieces in order, the locals' phase, the slots' phase.
use mathlib.Core.Path.{sym, subst}
use Rattle.job_space.specs.Rows.{Rows}
use Rattle.job_space.specs.Inner.{rows_at}
use Rattle.job_space.specs.Space.{Small}
use Rattle.job_areas.proofs.SolveLaws.{lent_after, keys_room, due_for, solved_for}
use Rattle.job_areas.proofs.solve.Goals as goal
use Rattle.job_areas.proofs.solve.Goals.{Start}

-- the rows that were lent
abbrev lent_rows : Start → Rows
lent_rows c = let a = c.args in rows_at a.points a.v a.blocks a.edges a.insts a.operands a.crossings a.locals a.slots a.addresses a.ends a.pieces a.assigned a.moves

pub layout-r-requires : goal.layout-r-requires
layout-r-requires c = subst Small (sym (c.sizes-z.ensures c.args.points)) c.requires.passed.small

pub put_in_order-requires : goal.put_in_order-requires
put_in_order-requires c =
    let rows = lent_rows (goal.at.put_in_order-requires c).Start in
    (keys_room rows c.args.areas _ c.requires _ (c.sizes-z.ensures c.args.points) c.layout-r.ensures, c.requires.passed.small.few_pieces)

pub measure_locals-total-requires : goal.measure_locals-total-requires
measure_locals-total-requires c =
    record {
      lent = lent_after c.requires c.put_in_order.ensures.kept.len;
      sizes = c.sizes-z.ensures c.args.points;
      placed = c.layout-r.ensures;
      order = c.put_in_order.ensures.order;
    }

pub measure_slots-requires : goal.measure_slots-requires
measure_slots-requires c =
    let rows = lent_rows (goal.at.measure_slots-requires c).Start in
    due_for rows c.args.areas _ c.requires _ (c.sizes-z.ensures c.args.points)
    c.layout-r.ensures c.put_in_order.ensures c.measure_locals-total.ensures

pub returns : goal.returns
returns c =
    let rows = lent_rows (goal.at.returns c).Start in
    solved_for rows c.args.areas _ c.requires _ (c.sizes-z.ensures c.args.points)
    c.layout-r.ensures c.put_in_order.ensures c.measure_locals-total.ensures c.measure_slots.ensures
