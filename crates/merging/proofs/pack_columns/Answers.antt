-- `pack_columns` meets its contract: one word more a turn.
use native.Mathlib.Omega.{arith}
use Rattle.words.proofs.RegionLaws.{done_start, done_more, done_all}
use Rattle.merging.proofs.pack_columns.Goals as goal

pub loop-i-init : goal.loop-i-init
loop-i-init c = done_start _ _ _ _ (omega arith)

pub loop-i-preserved : goal.loop-i-preserved
loop-i-preserved c = done_more c.loop-i.invariant _ _ (omega arith) (omega arith) c.pack.ensures

pub returns : goal.returns
returns c = done_all c.loop-i.invariant (omega arith)
