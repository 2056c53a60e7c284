-- `codes::verdict` meets its contract.
use Rattle.codes.proofs.verdict.Goals as goal

pub returns-in-Bad : goal.returns-in-Bad
returns-in-Bad c = rw c.in-Bad.is c.refused.ensures
