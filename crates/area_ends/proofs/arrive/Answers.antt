-- `arrive` meets its contract: the marked blocks before k have been visited.
use native.Mathlib.Omega.{arith}
use mathlib.Core.Path.{refl}
use Rattle.area_ends.proofs.ArriveLaws.{march_begin, march_more, march_done}
use Rattle.area_ends.proofs.arrive.Goals as goal

pub loop-k-init : goal.loop-k-init
loop-k-init c = (refl, march_begin _ _ _ _ _ c.requires _ c.first_from-k.ensures)

pub loop-k-preserved : goal.loop-k-preserved
loop-k-preserved c = (
  c.loop-k.invariant.0,
  march_more c.loop-k.invariant.1 _ (omega arith) c.arrival-x.ensures
      c.unset.ensures c.first_from-k-in-loop-k.ensures,
)

pub returns : goal.returns
returns c = march_done c.loop-k.invariant.1 (omega arith)
