-- `insts::counts::rows` meets its contract: a law for each way out.
use native.Mathlib.Omega.{arith}
use Rattle.insts.proofs.CheckLaws.{rows_cut, rows_many, rows_fine}
use Rattle.insts.proofs.counts.rows.Goals as goal

pub returns-then-lent-width-ne0 : goal.returns-then-lent-width-ne0
returns-then-lent-width-ne0 c = rows_cut _ _ _ c.if-lent-width-ne0.true

pub returns-then-limit-lent : goal.returns-then-limit-lent
returns-then-limit-lent c = rows_many c.args.width c.args.limit c.args.lent (omega arith) (omega arith)

pub returns : goal.returns
returns c = rows_fine c.args.width c.args.limit c.args.lent (omega arith) (omega arith)
