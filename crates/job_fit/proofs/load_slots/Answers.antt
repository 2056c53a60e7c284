-- `load_slots` meets its contract: a turn keeps `Done`.
use native.Mathlib.Omega.{arith}
use mathlib.Core.Path.{refl}
use Rattle.words.proofs.RegionLaws.{done_start, done_more, done_all}
use Rattle.job_fit.proofs.load_slots.Goals as goal

pub loop-i-init : goal.loop-i-init
loop-i-init c = done_start _ _ _ _ (omega arith)

pub loop-i-preserved : goal.loop-i-preserved
loop-i-preserved c = done_more c.loop-i.invariant _ _ (omega arith) refl refl

pub returns : goal.returns
returns c = done_all c.loop-i.invariant (omega arith)
