-- `preparing::ends` meets its contract: the locals with a placed end among the first k.
use mathlib.Core.Path.{refl}
use Rattle.words.proofs.FitLaws.{within}
use Rattle.preparing.proofs.Bounds.{past}
use Rattle.preparing.proofs.StepLaws.{end_start, end_unplaced, end_past, end_put, end_done}
use Rattle.preparing.proofs.ends.Goals.{then-insts-i-eq1+then-l-locals, else-insts-i-eq1, else-insts-i-eq1-via-then-insts-i-eq1+else-l-locals, else-insts-i-eq1-via-else-insts-i-eq1}
use Rattle.preparing.proofs.ends.Goals as goal

pub loop-k-init : goal.loop-k-init
loop-k-init c = (refl, end_start _ _ _ _ _ c.requires.locals_in_bounds.0 c.requires.by_index)

pub loop-k-preserved : goal.loop-k-preserved
loop-k-preserved c =
    let inv = c.loop-k.invariant in
    let more = within _ _ _ inv.0 c.loop-k-test.true in
    elim c.if-insts-i-eq1.branch [
      | then-insts-i-eq1+then-l-locals w ↦ (inv.0, rw w.work-is (end_put inv.1 _ _ more refl w.if-insts-i-eq1.true w.if-l-locals.true refl))
      | else-insts-i-eq1 w ↦
          elim w.else-insts-i-eq1.branch [
            | else-insts-i-eq1-via-then-insts-i-eq1+else-l-locals v ↦ (inv.0, rw w.work-is (end_past inv.1 more v.if-l-locals.false))
            | else-insts-i-eq1-via-else-insts-i-eq1 v ↦ (inv.0, rw w.work-is (end_unplaced inv.1 _ more refl v.if-insts-i-eq1.false))
          ]
    ]

pub returns : goal.returns
returns c = end_done c.loop-k.invariant.1 (past _ _ _ c.loop-k.invariant.0 c.loop-k-test.false)
