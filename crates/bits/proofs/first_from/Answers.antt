-- `bits::first_from` meets its contract: a turn keeps `Unset`.
use Rattle.bits.proofs.BitLaws.{unset_start, unset_more, first_none, first_here}
use native.Mathlib.Omega.{arith}
use Rattle.bits.proofs.first_from.Goals as goal

pub loop-k-init : goal.loop-k-init
loop-k-init c = unset_start _ _ _ _ (omega arith)

pub returns-then-x-ne0 : goal.returns-then-x-ne0
returns-then-x-ne0 c = first_here c.loop-k.invariant (omega arith) _ c.lowest.ensures

pub loop-k-preserved : goal.loop-k-preserved
loop-k-preserved c = unset_more c.loop-k.invariant (omega arith) (omega arith)

pub returns : goal.returns
returns c = first_none c.loop-k.invariant (omega arith)
