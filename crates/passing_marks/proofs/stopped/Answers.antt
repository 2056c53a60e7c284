-- `area_rows::marks::stopped` meets its contract: a law for each way out.
use Rattle.passing_marks.proofs.PassLaws.{stopped_far, stopped_before, stopped_after, stopped_in}
use native.Mathlib.Omega.{arith}
use Rattle.passing_marks.proofs.stopped.Goals as goal

pub returns-then-point-ge4294967296 : goal.returns-then-point-ge4294967296
returns-then-point-ge4294967296 c =
    stopped_far c.args.blocks.now (c.requires) _ (omega arith) (λ i. let h = c.type_inv.blocks i in omega arith)

pub returns-then-p-blocks : goal.returns-then-p-blocks
returns-then-p-blocks c =
    stopped_before c.args.blocks.now (c.requires) _ _ c.holding-k.ensures (omega arith)

pub returns-then-blocks-k : goal.returns-then-blocks-k
returns-then-blocks-k c =
    stopped_after c.args.blocks.now (c.requires) _ _ c.holding-k.ensures (omega arith)

pub returns : goal.returns
returns c =
    stopped_in c.args.blocks.now (c.requires) _ _ c.holding-k.ensures (omega arith) (omega arith)
