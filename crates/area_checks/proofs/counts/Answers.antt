-- `counts` meets its contract: the first that refuses.
use Rattle.area_checks.proofs.CheckLaws.{counts_chain}
use Rattle.area_checks.proofs.counts.Goals as goal

pub returns : goal.returns
returns c =
    counts_chain c.args.kinds c.args.touches c.args.ends c.args.areas c.args.items
    c.most-a.ensures c.rows-b.ensures
    c.rows-c.ensures c.rows-d.ensures c.rows-e.ensures
    c.earlier.ensures c.earlier-2.ensures c.earlier-3.ensures c.earlier-4.ensures
