-- `raise` meets its contract.
use lib.Dec.{lit<}
use Rattle.text_lines.proofs.StoreLaws.{count_is, raised_at}
use Rattle.text_lines.proofs.job_rows.raise.Goals as goal

pub entry_of-e-requires : goal.entry_of-e-requires
entry_of-e-requires c = lit< tt

pub returns : goal.returns
returns c =
    let a = c.args in
    let p = c.requires in
    raised_at a.rows.now a.i (count_is a.i c.entry_of-e.ensures.base c.entry_of-e.ensures.width p.0)
