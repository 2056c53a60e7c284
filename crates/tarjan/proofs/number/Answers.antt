use Rattle.tarjan.proofs.Lists.{number_start, number_more}
use native.Mathlib.Omega.{arith}
use mathlib.Core.Path.{◌≡◌, refl}
use Rattle.tarjan.proofs.number.Goals as goal

-- src/lib.rt:134:5
pub loop-v-init : goal.loop-v-init
loop-v-init c = (omega arith, number_start _ _ _)

-- src/lib.rt:134:5
pub loop-v-preserved : goal.loop-v-preserved
loop-v-preserved c = (omega arith, number_more _ _ _ _ _ _ c.requires.0 c.loop-v-test.true c.loop-v.invariant.1 refl)

-- src/lib.rt:129:1
pub returns : goal.returns
returns c = let q : c.loop-v.v ≡ c.args.n = omega arith in rw q at c.loop-v.invariant.1
