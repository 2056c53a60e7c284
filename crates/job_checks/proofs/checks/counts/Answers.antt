-- `job_checks::checks::counts` meets its contract: each check, the first that refuses.
use Rattle.job_space.specs.Inner.{rows_at}
use Rattle.job_checks.proofs.CheckLaws.{counts_chain}
use Rattle.job_checks.proofs.checks.counts.Goals as goal

pub returns : goal.returns
returns c =
    let a = c.args in
    λ points. counts_chain (rows_at points a.v a.blocks a.edges a.insts a.operands a.crossings a.locals a.slots a.addresses a.ends a.pieces a.assigned a.moves) a.areas
    c.counts-a.ensures c.others-b.ensures c.earlier.ensures
