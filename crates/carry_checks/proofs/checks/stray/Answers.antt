-- `carry_checks::checks::stray` meets its contract: addresses before ends.
use Rattle.carry_checks.proofs.checks.stray.Goals as goal

pub returns : goal.returns
returns c = let a = c.address-a.ensures in let b = c.end-b.ensures in let r = c.earlier.ensures in cc
