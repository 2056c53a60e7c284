-- `job_checks::checks::live` meets its contract: the checks in their order.
use Rattle.job_checks.proofs.checks.live.Goals as goal

pub returns : goal.returns
returns c = (let a = c.pieces-a.ensures in let b = c.assigned-b.ensures in let r = c.earlier.ensures in cc)
