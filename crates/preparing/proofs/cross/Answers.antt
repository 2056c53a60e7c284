-- `preparing::cross` meets its contract: the first k crossings are marked.
use native.Mathlib.Omega.{arith}
use mathlib.Core.Path.{refl}
use lib.ListN.{get_or}
use borrow.Author.Tests.{lt-ltb, le-ltb}
use Rattle.reach.proofs.MarkLaws.{mark_start, mark_skip, mark_put, mark_done}
use Rattle.preparing.proofs.StepLaws.{cross_found}
use Rattle.preparing.proofs.cross.Goals.{then-r-v, else-r-v}
use Rattle.preparing.proofs.cross.Goals as goal

pub loop-r-init : goal.loop-r-init
loop-r-init c = mark_start _ _ _ _ _ _ (omega arith)

pub loop-r-preserved : goal.loop-r-preserved
loop-r-preserved c =
    let inv = c.loop-r.invariant in
    let r = get_or c.args.crossings.now c.loop-r.r-index 0 in
    elim c.if-r-v.branch [
      | then-r-v w ↦ rw w.work-is (mark_put inv w.set.ensures (omega arith) (lt-ltb r c.args.v (omega arith)) refl (omega arith))
      | else-r-v w ↦ rw w.work-is (mark_skip inv (omega arith) (le-ltb r c.args.v (omega arith)))
    ]

pub returns : goal.returns
returns c = mark_done c.loop-r.invariant (omega arith) _ (λ r l. cross_found c.args.crossings.now c.args.v r l)
