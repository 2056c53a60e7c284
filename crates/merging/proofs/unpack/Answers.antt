-- `unpack` meets its contract: one number more a turn.
use Rattle.std.proofs.Common.{of_calls}
use native.Mathlib.Omega.{arith}
use Rattle.words.proofs.GallopLaws.{answers_next}
use Rattle.words.proofs.RegionLaws.{done_start, done_more, done_all}
use Rattle.merging.proofs.unpack.Goals as goal

pub loop-i-init : goal.loop-i-init
loop-i-init g c = (search of_calls, λ p h. (h, done_start _ _ _ _ (omega arith)))

pub loop-i-preserved : goal.loop-i-preserved
loop-i-preserved g c = (
  search of_calls,
  λ p h.
      let done = c.loop-i.invariant.1 p h in
      let n = answers_next g.P.FnMut _ _ _ _ _ c.point.ensures done.0 in
      (n.1, done_more done.1 _ _ (omega arith) (omega arith) n.0),
)

pub returns : goal.returns
returns g c = λ p h. done_all (c.loop-i.invariant.1 p h).1 (omega arith)
