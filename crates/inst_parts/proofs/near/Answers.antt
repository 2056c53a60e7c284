-- `near` meets its contract: the block that was tried has the point, or the search finds how many there are.
use native.Mathlib.Omega.{arith}
use Rattle.graph.proofs.Line.{starts_rise}
use Rattle.inst_parts.proofs.PartLaws.{near_found}
use Rattle.inst_parts.proofs.near.Goals as goal

pub overflow_sub-at : goal.overflow_sub-at
overflow_sub-at c = omega arith

pub overflow_mul-at : goal.overflow_mul-at
overflow_mul-at c = omega arith

pub overflow_add-at : goal.overflow_add-at
overflow_add-at c = omega arith

pub offset_bounds-blocks-at : goal.offset_bounds-blocks-at
offset_bounds-blocks-at c = omega arith

pub bounds-blocks-at : goal.bounds-blocks-at
bounds-blocks-at c = omega arith

pub overflow_add-at-then-blocks-at : goal.overflow_add-at-then-blocks-at
overflow_add-at-then-blocks-at c = omega arith

pub offset_bounds-blocks-at-then-blocks-at : goal.offset_bounds-blocks-at-then-blocks-at
offset_bounds-blocks-at-then-blocks-at c = omega arith

pub bounds-blocks-at-then-blocks-at : goal.bounds-blocks-at-then-blocks-at
bounds-blocks-at-then-blocks-at c = omega arith

pub returns-then-early-blocks : goal.returns-then-early-blocks
returns-then-early-blocks c =
    near_found c.args.blocks.now c.requires.0 c.args.k c.args.early (omega arith) (omega arith) (omega arith) (omega arith)

pub at_most_in_rows-requires : goal.at_most_in_rows-requires
at_most_in_rows-requires c = (omega arith, omega arith, starts_rise c.args.blocks.now c.requires.0)

pub returns : goal.returns
returns c = c.at_most_in_rows.ensures
