-- `postorder::order` meets its contract: a walk from each place that was not seen.
use mathlib.Core.Path.{refl}
use Rattle.postorder.proofs.Roots.{roots_start, roots_walk, roots_skip, roots_done}
use Rattle.postorder.proofs.Bounds.{start, at_root}
use Rattle.postorder.proofs.order.Goals.{then-work-next-eq0, else-work-next-eq0}
use Rattle.postorder.proofs.order.Goals as goal

pub overflow_add-next : goal.overflow_add-next
overflow_add-next c = (start c.requires c.well_formed.0.1).rank

pub overflow_add-next-2 : goal.overflow_add-next-2
overflow_add-next-2 c = (start c.requires c.well_formed.0.1).stack

pub overflow_add-next-3 : goal.overflow_add-next-3
overflow_add-next-3 c = (start c.requires c.well_formed.0.1).next

pub loop-root-init : goal.loop-root-init
loop-root-init c = (refl, roots_start (c.requires) c.fill.ensures)

pub overflow_add-next-in-loop-root : goal.overflow_add-next-in-loop-root
overflow_add-next-in-loop-root c = (at_root _ _ c.loop-root.invariant.1 c.loop-root.invariant.0 c.fill.ensures.len c.well_formed.0.1 c.loop-root-test.true).seen.fits

pub offset_bounds-work-next : goal.offset_bounds-work-next
offset_bounds-work-next c = (at_root _ _ c.loop-root.invariant.1 c.loop-root.invariant.0 c.fill.ensures.len c.well_formed.0.1 c.loop-root-test.true).seen.in_bytes

pub bounds-work-next : goal.bounds-work-next
bounds-work-next c =
    (at_root _ _ c.loop-root.invariant.1 c.loop-root.invariant.0 c.fill.ensures.len c.well_formed.0.1
    c.loop-root-test.true).seen.inside

pub walk-left-requires : goal.walk-left-requires
walk-left-requires c = record { root_lt_n = (c.loop-root-test.true, c.if-work-next-eq0.true); ready = c.loop-root.invariant.1.ready }

pub loop-root-preserved : goal.loop-root-preserved
loop-root-preserved c =
    let inv = c.loop-root.invariant in
    let more = c.loop-root-test.true in
    elim c.if-work-next-eq0.branch [
      | then-work-next-eq0 w ↦ (inv.0, rw (w.work-is, w.left-is) (roots_walk inv.1 more w.walk-left.ensures))
      | else-work-next-eq0 w ↦ (inv.0, rw (w.work-is, w.left-is) (roots_skip inv.1 more w.if-work-next-eq0.false))
    ]

pub returns : goal.returns
returns c = roots_done (c.requires) c.fill.ensures c.loop-root.invariant.1 c.loop-root-test.false

pub shape_of-work : goal.shape_of-work
shape_of-work c = (returns c).kept.len
