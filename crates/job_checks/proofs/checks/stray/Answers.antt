-- `job_checks::checks::stray` meets its contract: the checks in their order.
use Rattle.job_checks.proofs.checks.stray.Goals as goal

pub returns : goal.returns
returns c = let a = c.stray-a.ensures in let b = c.moves-b.ensures in let r = c.earlier.ensures in cc
