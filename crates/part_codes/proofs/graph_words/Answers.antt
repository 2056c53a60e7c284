-- `graph_words` meets its contract.
use native.Mathlib.Omega.{arith}
use Rattle.part_codes.proofs.CodeLaws.{product_fits}
use Rattle.part_codes.proofs.graph_words.Goals as goal

pub overflow_mul-rows : goal.overflow_mul-rows
overflow_mul-rows c = omega (arith, product_fits c.args.blocks c.args.words (omega arith) (omega arith))

pub overflow_add-n-2 : goal.overflow_add-n-2
overflow_add-n-2 c = omega (arith, product_fits c.args.blocks c.args.words (omega arith) (omega arith))
