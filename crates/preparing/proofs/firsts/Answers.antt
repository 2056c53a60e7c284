-- `preparing::firsts` meets its contract: the first i instructions have their first edge.
use mathlib.Core.Path.{refl}
use Rattle.preparing.proofs.StepLaws.{first_start, first_skip, first_put, first_done}
use Rattle.preparing.proofs.firsts.Goals.{then-d-ne0, else-d-ne0}
use Rattle.preparing.proofs.firsts.Goals as goal

pub loop-i-init : goal.loop-i-init
loop-i-init c = first_start _ _ _ _ _ _ c.requires.m_bound.0 c.requires.m_bound.1 c.requires.m_bound.2

pub loop-i-preserved : goal.loop-i-preserved
loop-i-preserved c =
    let inv = c.loop-i.invariant in
    let more = c.loop-i-test.true in
    elim c.if-d-ne0.branch [
      | then-d-ne0 w ↦ rw w.work-is (first_put inv _ _ _ more w.if-d-ne0.true refl refl w.below-f.ensures)
      | else-d-ne0 w ↦ rw w.work-is (first_skip inv more w.if-d-ne0.false)
    ]

pub returns : goal.returns
returns c = first_done c.loop-i.invariant c.loop-i-test.false
