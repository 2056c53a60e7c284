-- `over` meets its contract.
use native.Mathlib.Omega.{arith}
use Rattle.part_codes.proofs.CodeLaws.{over_some}
use Rattle.part_codes.proofs.over.Goals as goal

pub returns : goal.returns
returns c = over_some c.args.over (λ e. absurd (omega arith))
