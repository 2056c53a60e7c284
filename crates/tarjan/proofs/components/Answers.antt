-- `tarjan::components` meets its contract: the pieces of the walks from all roots are the components.
use Rattle.tarjan.proofs.components.Goals.{then-work-base-eq0, else-work-base-eq0}
use Rattle.tarjan.proofs.Roots.{roots_start, roots_walk, roots_skip, roots_room, roots_shut, roots_found}
use Rattle.tarjan.proofs.Edges.{rows_given, found}
use Rattle.tarjan.proofs.components.Goals as goal

pub loop-root-init : goal.loop-root-init
loop-root-init c = roots_start _ _ _ _ _ _ (rows_given c.requires) c.begin.ensures

pub loop-root-preserved : goal.loop-root-preserved
loop-root-preserved c =
    let inv = c.loop-root.invariant in
    let more = c.loop-root-test.true in
    elim c.if-work-base-eq0.branch [
      | then-work-base-eq0 w ↦ rw (w.work-is, w.c-is, w.e-is) (roots_walk inv more w.walk-z.ensures)
      | else-work-base-eq0 w ↦ rw (w.work-is, w.c-is, w.e-is) (roots_skip inv more w.if-work-base-eq0.false)
    ]

pub number-requires : goal.number-requires
number-requires c =
    (roots_room c.loop-root.invariant c.loop-root-test.false, roots_shut c.loop-root.invariant c.loop-root-test.false)

pub returns : goal.returns
returns c =
    found (roots_found c.loop-root.invariant c.loop-root-test.false _ _
    (rows_given c.requires)
    c.begin.ensures c.number.ensures)
