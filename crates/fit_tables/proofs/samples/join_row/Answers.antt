-- `join_row` meets its contract: the two rows are of one table.
use Rattle.bits.proofs.BitLaws.{aligned_rows}
use Rattle.fit_tables.specs.Inner.{cell_in}
use Rattle.fit_tables.proofs.MarkLaws.{row_inside}
use Rattle.fit_tables.proofs.samples.join_row.Goals as goal

pub row_or-requires : goal.row_or-requires
row_or-requires c =
    let t = c.args.t in
    let cell = cell_in c.args.w.now t c.args.k in (
      row_inside t.end c.args.width cell t.n _ c.requires.5 c.requires.1,
      row_inside t.end c.args.width c.args.cells t.n _ c.requires.3 c.requires.1,
      aligned_rows t.end cell c.args.cells c.args.width,
    )

pub returns : goal.returns
returns c = record { row = c.row_or.ensures }
