-- `insts::counts::code` meets its contract: each check, the first that refuses.
use Rattle.insts.proofs.CheckLaws.{counts_chain}
use Rattle.insts.proofs.counts.code.Goals as goal

pub returns : goal.returns
returns c =
    counts_chain c.args.v (c.args.insts.now) (c.args.operands.now) (c.args.crossings.now) (c.args.locals.now) (c.args.addresses.now) (c.args.ends.now)
    c.most-a.ensures
    c.insts-b.ensures c.most-c.ensures
    c.rows-d.ensures c.rows-e.ensures
    c.rows-f.ensures c.earlier-f.ensures c.earlier-f-2.ensures
    c.earlier-f-3.ensures c.earlier-f-4.ensures c.earlier.ensures
