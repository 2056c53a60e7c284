-- `merge` meets its contract: the words are sorted, and joined in place.
use mathlib.Core.Path.{refl}
use native.Mathlib.Omega.{arith}
use Rattle.packed.proofs.PackedLaws.{join_start, join_more, join_done}
use Rattle.packed.proofs.merge.Goals as goal

pub loop-i-init : goal.loop-i-init
loop-i-init c = join_start _ _ _ (omega arith)

pub loop-i-preserved : goal.loop-i-preserved
loop-i-preserved c = join_more c.loop-i.invariant _ (omega arith) refl (omega arith) c.take_up-k.ensures

pub returns : goal.returns
returns c = join_done c.loop-i.invariant _ (omega arith) c.sort_part.ensures (omega arith)
