-- `power` meets its contract: 0 is none, and any other number is one where it is its lowest set bit.
use native.Mathlib.Omega.{arith}
use mathlib.Core.Path.{ap, ◌∙◌}
use Prim.Native.Nat.{ℕ}
use lib.Dec.{eqb}
use Rattle.bits.proofs.DigitLaws.{shift_one}
use Rattle.fit_layout.proofs.WordLaws.{power_none, power_is}
use Rattle.fit_layout.proofs.power.Goals as goal

pub returns-then-a-lt1 : goal.returns-then-a-lt1
returns-then-a-lt1 c = power_none _ (omega arith)

pub returns : goal.returns
returns c =
    let a = c.args.a in
    ap (λ (x : ℕ). eqb x a) (shift_one _ c.lowest.ensures.within) ∙ power_is a _ (omega arith) c.lowest.ensures
