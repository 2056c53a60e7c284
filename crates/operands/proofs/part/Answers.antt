-- `operands::part` meets its contract: a law for each way out.
use native.Mathlib.Omega.{arith}
use Rattle.operands.proofs.OperandLaws.{part_far, part_base, part_index}
use Rattle.operands.proofs.part.Goals as goal

pub returns-then-p-ge256 : goal.returns-then-p-ge256
returns-then-p-ge256 c = part_far c.args.base c.args.index c.args.p (omega arith)

pub returns-then-base-p : goal.returns-then-base-p
returns-then-base-p c = part_base c.args.base c.args.index c.args.p (omega arith) (omega arith)

pub returns : goal.returns
returns c = part_index c.args.base c.args.index c.args.p (omega arith) c.if-base-p.false
