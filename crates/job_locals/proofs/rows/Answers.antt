-- `rows` meets its contract: all locals are marked, and their rows are made from the marks.
use native.Mathlib.Omega.{arith}
use Rattle.job_locals.proofs.RowLaws.{grid_since, quiet, rows_in_lem}
use Rattle.job_locals.proofs.rows.Goals as goal

pub mark_all-requires : goal.mark_all-requires
mark_all-requires c = c.requires.marks

pub area_rows-requires : goal.area_rows-requires
area_rows-requires c =
    let a = c.args in record {
      sound = (
        c.requires.marks.line,
        c.requires.edges_fine,
        grid_since a.blocks.now a.edges.now a.insts.now a.addresses.now a.ends.now a.pieces.now a.lay a.p
            a.z a.g a.mark c.requires c.mark_all.ensures,
      );
      quiet = quiet a.blocks.now a.edges.now a.insts.now a.addresses.now a.ends.now a.pieces.now a.lay
          a.p a.z a.g a.mark c.requires c.mark_all.ensures;
    }

pub fill-requires : goal.fill-requires
fill-requires c =
    omega (
      arith,
      c.requires.mark_fits,
      c.area_rows.ensures.kept.len,
      c.mark_all.ensures.kept.len,
    )

pub returns : goal.returns
returns c =
    let a = c.args in
    rows_in_lem a.blocks.now a.edges.now a.insts.now a.addresses.now a.ends.now a.pieces.now a.lay a.p a.z a.g a.mark c.requires
    c.mark_all.ensures c.area_rows.ensures
    c.fill.ensures

pub shape_of-work : goal.shape_of-work
shape_of-work c = (returns c).kept.len
