-- `count` meets its contract: a law for each way out.
use native.Mathlib.Omega.{arith}
use Rattle.line_checks.proofs.Refusals.{not_whole, no_block, many_blocks, edges_cut, many_edges, counts_fine}
use Rattle.line_checks.proofs.count.Goals as goal

pub returns-then-blocks-ne0 : goal.returns-then-blocks-ne0
returns-then-blocks-ne0 c = not_whole c.args.blocks.now c.args.edges.now (omega arith)

pub returns-then-blocks-lt1 : goal.returns-then-blocks-lt1
returns-then-blocks-lt1 c = no_block c.args.blocks.now c.args.edges.now (omega arith) (omega arith)

pub returns-then-blocks-gt4096 : goal.returns-then-blocks-gt4096
returns-then-blocks-gt4096 c =
    many_blocks c.args.blocks.now c.args.edges.now (omega arith) (omega arith) (omega arith)

pub returns-then-edges-ne0 : goal.returns-then-edges-ne0
returns-then-edges-ne0 c =
    edges_cut c.args.blocks.now c.args.edges.now (omega arith) (omega arith) (omega arith) (omega arith)

pub returns-then-edges-gt16384 : goal.returns-then-edges-gt16384
returns-then-edges-gt16384 c =
    many_edges c.args.blocks.now c.args.edges.now (omega arith) (omega arith) (omega arith) (omega arith) (omega arith)

pub returns : goal.returns
returns c =
    counts_fine c.args.blocks.now c.args.edges.now (omega arith) (omega arith) (omega arith) (omega arith) (omega arith)
