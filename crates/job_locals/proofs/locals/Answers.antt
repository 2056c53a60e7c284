-- `locals` meets its contract: tables, rows, areas.
use Rattle.job_locals.proofs.PhaseLaws.{rows_asked, measure_ready, locals_in}
use Rattle.job_locals.proofs.locals.Goals as goal

pub tables-n-requires : goal.tables-n-requires
tables-n-requires c = c.requires.tables

pub rows-requires : goal.rows-requires
rows-requires c =
    let a = c.args in
    rows_asked a.blocks.now a.edges.now a.insts.now a.operands.now a.crossings.now a.addresses.now a.ends.now a.pieces.now a.v a.locals
    a.lay a.p a.g a.mark a.o c.requires c.tables-n.ensures

pub measure_locals-requires : goal.measure_locals-requires
measure_locals-requires c =
    let a = c.args in
    measure_ready a.blocks.now a.edges.now a.insts.now a.operands.now a.crossings.now a.addresses.now a.ends.now a.pieces.now a.v a.locals
    a.lay a.p a.g a.mark a.o c.requires c.tables-n.ensures c.rows.ensures

pub returns : goal.returns
returns c =
    let a = c.args in
    locals_in a.blocks.now a.edges.now a.insts.now a.operands.now a.crossings.now a.addresses.now a.ends.now a.pieces.now a.v a.locals
    a.lay a.p a.g a.mark a.o c.requires c.tables-n.ensures
    c.rows.ensures c.measure_locals.ensures

pub shape_of-work : goal.shape_of-work
shape_of-work c = (returns c).len
