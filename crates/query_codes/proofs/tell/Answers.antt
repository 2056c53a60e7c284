-- `tell` meets its contract.
use Rattle.query_codes.proofs.CodeLaws.{part_refused}
use Rattle.query_codes.proofs.tell.Goals as goal
use Rattle.std.specs.Prelude.{Err}

pub returns-in-Err : goal.returns-in-Err
returns-in-Err c = part_refused c.in-Err.is c.refused.ensures
