-- `needed` meets its contract: no sum is too large.
use native.Mathlib.Omega.{arith}
use Rattle.job_space.proofs.SpaceLaws.{space_fits}
use Rattle.job_space.proofs.needed.Goals as goal

pub overflow_add-code : goal.overflow_add-code
overflow_add-code c = omega (arith, space_fits c.requires)

pub overflow_add-code-2 : goal.overflow_add-code-2
overflow_add-code-2 c = omega (arith, space_fits c.requires)

pub overflow_add-code-3 : goal.overflow_add-code-3
overflow_add-code-3 c = omega (arith, space_fits c.requires)

pub overflow_add-code-4 : goal.overflow_add-code-4
overflow_add-code-4 c = omega (arith, space_fits c.requires)

pub overflow_add-items : goal.overflow_add-items
overflow_add-items c = omega (arith, space_fits c.requires)

pub overflow_add-items-2 : goal.overflow_add-items-2
overflow_add-items-2 c = omega (arith, space_fits c.requires)

pub overflow_add-items-3 : goal.overflow_add-items-3
overflow_add-items-3 c = omega (arith, space_fits c.requires)

pub overflow_add-live : goal.overflow_add-live
overflow_add-live c = omega (arith, space_fits c.requires)

pub overflow_add-live-2 : goal.overflow_add-live-2
overflow_add-live-2 c = omega (arith, space_fits c.requires)

pub overflow_add-rows : goal.overflow_add-rows
overflow_add-rows c = omega (arith, space_fits c.requires)

pub overflow_mul-rows : goal.overflow_mul-rows
overflow_mul-rows c = omega (arith, space_fits c.requires)

pub overflow_add-result : goal.overflow_add-result
overflow_add-result c = omega (arith, space_fits c.requires)

pub overflow_add-result-2 : goal.overflow_add-result-2
overflow_add-result-2 c = omega (arith, space_fits c.requires)

pub overflow_add-result-3 : goal.overflow_add-result-3
overflow_add-result-3 c = omega (arith, space_fits c.requires)

pub overflow_add-result-4 : goal.overflow_add-result-4
overflow_add-result-4 c = omega (arith, space_fits c.requires)

pub overflow_add-result-5 : goal.overflow_add-result-5
overflow_add-result-5 c = omega (arith, c.requires.registers)

pub overflow_add-result-6 : goal.overflow_add-result-6
overflow_add-result-6 c = omega (arith, space_fits c.requires)

pub overflow_mul-result : goal.overflow_mul-result
overflow_mul-result c = omega (arith, space_fits c.requires)
