-- `carry_checks::checks::words` meets its contract: no sum is too large.
use native.Mathlib.Omega.{arith}
use Rattle.carry_checks.proofs.CheckLaws.{rows_fit}
use Rattle.carry_checks.proofs.checks.words.Goals as goal

pub overflow_add-code : goal.overflow_add-code
overflow_add-code c = omega arith

pub overflow_add-code-2 : goal.overflow_add-code-2
overflow_add-code-2 c = omega arith

pub overflow_add-code-3 : goal.overflow_add-code-3
overflow_add-code-3 c = omega arith

pub overflow_add-named : goal.overflow_add-named
overflow_add-named c = omega arith

pub overflow_add-named-2 : goal.overflow_add-named-2
overflow_add-named-2 c = omega arith

pub overflow_add-rows : goal.overflow_add-rows
overflow_add-rows c = omega arith

pub overflow_mul-rows : goal.overflow_mul-rows
overflow_mul-rows c = omega (arith, rows_fit c.args.blocks c.args.locals (omega arith) (omega arith))

pub overflow_add-result : goal.overflow_add-result
overflow_add-result c = omega arith

pub overflow_add-result-2 : goal.overflow_add-result-2
overflow_add-result-2 c = omega (arith, rows_fit c.args.blocks c.args.locals (omega arith) (omega arith))

pub overflow_add-result-3 : goal.overflow_add-result-3
overflow_add-result-3 c = omega arith

pub overflow_add-result-4 : goal.overflow_add-result-4
overflow_add-result-4 c = omega (arith, rows_fit c.args.blocks c.args.locals (omega arith) (omega arith))

pub overflow_mul-result : goal.overflow_mul-result
overflow_mul-result c = omega (arith, rows_fit c.args.blocks c.args.locals (omega arith) (omega arith))
