-- `job_checks::checks::others` meets its contract: each check, the first that refuses.
use Rattle.job_checks.proofs.CheckLaws.{others_chain}
use Rattle.job_checks.proofs.checks.others.Goals as goal

pub returns : goal.returns
returns c =
    others_chain c.args.edges c.args.slots c.args.pieces c.args.assigned c.args.moves c.args.areas
    c.rows-a.ensures
    c.most-b.ensures c.rows-c.ensures
    c.rows-d.ensures c.rows-e.ensures
    c.rows-f.ensures c.earlier-f.ensures c.earlier-f-2.ensures
    c.earlier-f-3.ensures c.earlier-f-4.ensures c.earlier.ensures
