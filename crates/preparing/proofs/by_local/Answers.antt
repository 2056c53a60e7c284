-- `preparing::by_local` meets its contract: the steps one after another.
use native.Mathlib.Omega.{arith}
use Rattle.preparing.proofs.ReadyLaws.{by_local}
use Rattle.preparing.proofs.by_local.Goals as goal

pub returns : goal.returns
returns c =
    let a = c.args in
    by_local a.lay a.words a.insts.now a.addresses.now a.ends.now a.locals (omega arith) (omega arith) (omega arith)
    c.empty.ensures c.chain.ensures
    c.ends.ensures
