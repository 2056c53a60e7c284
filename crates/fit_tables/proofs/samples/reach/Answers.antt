-- `reach` meets its contract.
use native.Mathlib.Omega.{arith}
use Rattle.fit_tables.proofs.samples.reach.Goals as goal

pub last_point-requires : goal.last_point-requires
last_point-requires c =
    ((λ h. c.requires.proper c.loop-i.i (omega arith) h), omega (arith, c.requires.room))

pub loop-i-preserved : goal.loop-i-preserved
loop-i-preserved c =
    let the-loop = c.loop-i in
    omega (arith, c.larger-most.ensures, c.last_point.ensures, (the-loop).invariant.0)
