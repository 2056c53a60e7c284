-- `insts::counts::most` meets its contract: a law for each way out.
use native.Mathlib.Omega.{arith}
use Rattle.insts.proofs.CheckLaws.{most_many, most_fine}
use Rattle.insts.proofs.counts.most.Goals as goal

pub returns-then-limit-n : goal.returns-then-limit-n
returns-then-limit-n c = most_many c.args.limit c.args.n (omega arith)

pub returns : goal.returns
returns c = most_fine c.args.limit c.args.n (omega arith)
