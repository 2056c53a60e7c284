-- `postorder::push` meets its contract: two stores.
use lib.ListN.{length-set}
use Rattle.postorder.proofs.Bounds.{at_push}
use Rattle.postorder.proofs.push.Goals as goal

pub overflow_add-stack : goal.overflow_add-stack
overflow_add-stack c = (at_push _ _ _ c.args.w.now _ _ c.requires.0 c.requires.1 c.requires.2 c.requires.3 c.requires.4 c.well_formed.0.1).rank

pub overflow_add-stack-2 : goal.overflow_add-stack-2
overflow_add-stack-2 c = (at_push _ _ _ c.args.w.now _ _ c.requires.0 c.requires.1 c.requires.2 c.requires.3 c.requires.4 c.well_formed.0.1).stack

pub overflow_add-next : goal.overflow_add-next
overflow_add-next c = (at_push _ _ _ c.args.w.now _ _ c.requires.0 c.requires.1 c.requires.2 c.requires.3 c.requires.4 c.well_formed.0.1).next

pub overflow_add-first : goal.overflow_add-first
overflow_add-first c = (at_push _ _ _ c.args.w.now _ _ c.requires.0 c.requires.1 c.requires.2 c.requires.3 c.requires.4 c.well_formed.0.1).first.fits

pub offset_bounds-w-at : goal.offset_bounds-w-at
offset_bounds-w-at c = (at_push _ _ _ c.args.w.now _ _ c.requires.0 c.requires.1 c.requires.2 c.requires.3 c.requires.4 c.well_formed.0.1).first.in_bytes

pub bounds-w-at : goal.bounds-w-at
bounds-w-at c = (at_push _ _ _ c.args.w.now _ _ c.requires.0 c.requires.1 c.requires.2 c.requires.3 c.requires.4 c.well_formed.0.1).first.inside

pub overflow_add-w : goal.overflow_add-w
overflow_add-w c = (at_push _ _ _ c.args.w.now _ _ c.requires.0 c.requires.1 c.requires.2 c.requires.3 c.requires.4 c.well_formed.0.1).held.fits

pub offset_bounds-w-stack : goal.offset_bounds-w-stack
offset_bounds-w-stack c = (at_push _ _ _ c.args.w.now _ _ c.requires.0 c.requires.1 c.requires.2 c.requires.3 c.requires.4 c.well_formed.0.1).held.in_bytes

pub bounds-w-stack : goal.bounds-w-stack
bounds-w-stack c = (at_push _ _ _ c.args.w.now _ _ c.requires.0 c.requires.1 c.requires.2 c.requires.3 c.requires.4 c.well_formed.0.1).held.inside

pub overflow_add-w-2 : goal.overflow_add-w-2
overflow_add-w-2 c = (at_push _ _ _ c.args.w.now _ _ c.requires.0 c.requires.1 c.requires.2 c.requires.3 c.requires.4 c.well_formed.0.1).more

pub overflow_add-w-3 : goal.overflow_add-w-3
overflow_add-w-3 c = (at_push _ _ _ c.args.w.now _ _ c.requires.0 c.requires.1 c.requires.2 c.requires.3 c.requires.4 c.well_formed.0.1).looked.fits

pub offset_bounds-w-next : goal.offset_bounds-w-next
offset_bounds-w-next c = (at_push _ _ _ c.args.w.now _ _ c.requires.0 c.requires.1 c.requires.2 c.requires.3 c.requires.4 c.well_formed.0.1).looked.in_bytes

pub bounds-w-next : goal.bounds-w-next
bounds-w-next c = simp length-set (at_push _ _ _ c.args.w.now _ _ c.requires.0 c.requires.1 c.requires.2 c.requires.3 c.requires.4 c.well_formed.0.1).looked.inside

pub shape_of-w : goal.shape_of-w
shape_of-w c = simp length-set
