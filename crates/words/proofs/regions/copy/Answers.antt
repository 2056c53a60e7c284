-- `words::regions::copy` meets its contract: a turn keeps `Done`, and the source is not written.
use Rattle.words.proofs.RegionLaws.{done_start, done_more, done_all, done_source}
use native.Mathlib.Omega.{arith}
use mathlib.Core.Path.{refl}
use Rattle.words.proofs.regions.copy.Goals as goal

pub loop-i-init : goal.loop-i-init
loop-i-init c = done_start _ _ _ _ (omega arith)

pub loop-i-preserved : goal.loop-i-preserved
loop-i-preserved c = let d = c.loop-i.invariant in done_more d _ _ (omega arith) refl (done_source d c.requires.2 _ (omega arith) (omega arith))

pub returns : goal.returns
returns c = done_all c.loop-i.invariant c.loop-i-test.false
