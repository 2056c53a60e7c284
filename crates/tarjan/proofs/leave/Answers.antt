-- `tarjan::leave` meets its contract: each of its two ways out is a law of `Parts`.
use native.Mathlib.Omega.{arith}
use Rattle.tarjan.proofs.Bounds.{AtEnd, end, few, below_low, to_close}
use Rattle.tarjan.proofs.Parts.{left_held, left_closed}
use Rattle.tarjan.proofs.leave.Goals as goal

pub offset_bounds-w-low : goal.offset_bounds-w-low
offset_bounds-w-low c =
    let at_end : AtEnd c.args.n c.args.base c.args.w.now c.args.z.s c.args.z.c c.args.z.e c.args.p c.args.low = end c.requires c.well_formed.0.1 in
    (at_end).low_at.in_bytes

pub bounds-w-low : goal.bounds-w-low
bounds-w-low c =
    let at_end : AtEnd c.args.n c.args.base c.args.w.now c.args.z.s c.args.z.c c.args.z.e c.args.p c.args.low = end c.requires c.well_formed.0.1 in
    (at_end).low_at.inside

pub lower-requires : goal.lower-requires
lower-requires c = below_low c.requires c.well_formed.0.1

pub returns-then-l-p : goal.returns-then-l-p
returns-then-l-p c = rw c.lower.ensures (left_held c.requires c.if-l-p.true)

pub overflow_add-n-2 : goal.overflow_add-n-2
overflow_add-n-2 c = omega (arith, few c.requires c.well_formed.0.1)

pub close-requires : goal.close-requires
close-requires c = to_close c.requires c.well_formed.0.1

pub overflow_add-result : goal.overflow_add-result
overflow_add-result c =
    let at_end : AtEnd c.args.n c.args.base c.args.w.now c.args.z.s c.args.z.c c.args.z.e c.args.p c.args.low = end c.requires c.well_formed.0.1 in
    (at_end).pieces

pub overflow_add-result-2 : goal.overflow_add-result-2
overflow_add-result-2 c =
    let at_end : AtEnd c.args.n c.args.base c.args.w.now c.args.z.s c.args.z.c c.args.z.e c.args.p c.args.low = end c.requires c.well_formed.0.1 in
    (at_end).closed

pub returns : goal.returns
returns c = left_closed c.requires c.if-l-p.false c.close.ensures
