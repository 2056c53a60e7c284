-- `tarjan::turn` meets its contract: it is the turn of the part that it calls.
use Rattle.tarjan.proofs.Bounds.{Turning, turning}
use Rattle.tarjan.proofs.turn.Goals as goal

pub overflow_add-frame : goal.overflow_add-frame
overflow_add-frame c =
    let turns : Turning c.args.n c.args.at c.args.base c.args.w.now c.args.z.d = turning c.requires.d_nonzero c.requires.ready c.well_formed.0.1 in
    (turns).frame.fits

pub offset_bounds-w-frame : goal.offset_bounds-w-frame
offset_bounds-w-frame c =
    let turns : Turning c.args.n c.args.at c.args.base c.args.w.now c.args.z.d = turning c.requires.d_nonzero c.requires.ready c.well_formed.0.1 in
    (turns).frame.in_bytes

pub bounds-w-frame : goal.bounds-w-frame
bounds-w-frame c =
    let turns : Turning c.args.n c.args.at c.args.base c.args.w.now c.args.z.d = turning c.requires.d_nonzero c.requires.ready c.well_formed.0.1 in
    (turns).frame.inside

pub overflow_add-u : goal.overflow_add-u
overflow_add-u c =
    let turns : Turning c.args.n c.args.at c.args.base c.args.w.now c.args.z.d = turning c.requires.d_nonzero c.requires.ready c.well_formed.0.1 in
    (turns).held.fits

pub offset_bounds-w-stk : goal.offset_bounds-w-stk
offset_bounds-w-stk c =
    let turns : Turning c.args.n c.args.at c.args.base c.args.w.now c.args.z.d = turning c.requires.d_nonzero c.requires.ready c.well_formed.0.1 in
    (turns).held.in_bytes

pub bounds-w-stk : goal.bounds-w-stk
bounds-w-stk c =
    let turns : Turning c.args.n c.args.at c.args.base c.args.w.now c.args.z.d = turning c.requires.d_nonzero c.requires.ready c.well_formed.0.1 in
    (turns).held.inside

pub overflow_add-frame-then-k-w : goal.overflow_add-frame-then-k-w
overflow_add-frame-then-k-w c =
    let turns : Turning c.args.n c.args.at c.args.base c.args.w.now c.args.z.d = turning c.requires.d_nonzero c.requires.ready c.well_formed.0.1 in
    (turns).low

pub returns-then-k-w : goal.returns-then-k-w
returns-then-k-w c = c.look.ensures _ c.requires.ready c.if-k-w.true

pub returns : goal.returns
returns c = c.leave.ensures _ _ c.requires.ready c.if-k-w.false
