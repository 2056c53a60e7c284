-- `space` meets its contract: a law for each way out.
use native.Mathlib.Omega.{arith}
use Rattle.line_checks.proofs.Refusals.{short_answer, short_work, enough}
use Rattle.line_checks.proofs.space.Goals as goal

pub returns-then-answer-most : goal.returns-then-answer-most
returns-then-answer-most c = short_answer c.args.answer c.args.most c.args.work c.args.n c.args.e c.args.rows (omega arith)

pub returns-then-work-rows : goal.returns-then-work-rows
returns-then-work-rows c =
    short_work c.args.answer c.args.most c.args.work c.args.n c.args.e c.args.rows (omega arith) (omega arith)

pub returns-then-work-n : goal.returns-then-work-n
returns-then-work-n c =
    short_work c.args.answer c.args.most c.args.work c.args.n c.args.e c.args.rows (omega arith) (omega arith)

pub returns : goal.returns
returns c =
    enough c.args.answer c.args.most c.args.work c.args.n c.args.e c.args.rows (omega arith) (omega arith)
