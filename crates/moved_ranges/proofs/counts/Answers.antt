-- `moved_ranges::counts` meets its contract: each check, the first that refuses.
use Rattle.moved_ranges.proofs.MovedEntry.{counts_chain}
use Rattle.moved_ranges.proofs.counts.Goals as goal

pub returns : goal.returns
returns c =
    counts_chain c.args.v c.args.blocks.now c.args.insts.now c.args.operands.now c.args.moves.now c.args.lent
    c.most-a.ensures c.blocks-b.ensures
    c.insts-c.ensures c.rows-d.ensures c.whole-e.ensures
    c.earlier-e.ensures c.earlier-e-2.ensures c.earlier-e-3.ensures c.earlier.ensures
