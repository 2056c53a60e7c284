use Rattle.tarjan.proofs.Lists.{begin_start, begin_more}
use native.Mathlib.Omega.{arith}
use mathlib.Core.Path.{◌≡◌}
use Rattle.tarjan.proofs.begin.Goals as goal

-- src/lib.rt:121:5
pub loop-v-init : goal.loop-v-init
loop-v-init c = (omega arith, begin_start _ _ _ _)

-- src/lib.rt:121:5
pub loop-v-preserved : goal.loop-v-preserved
loop-v-preserved c =
    (omega arith, begin_more _ _ _ _ _ _ c.requires.0 c.requires.1 c.loop-v-test.true c.loop-v.invariant.1)

-- src/lib.rt:115:1
pub returns : goal.returns
returns c = let q : c.loop-v.v ≡ c.args.n = omega arith in rw q at c.loop-v.invariant.1
