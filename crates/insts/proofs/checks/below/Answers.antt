-- `insts::checks::below` meets its contract: no row before i is refused.
use native.Mathlib.Omega.{arith}
use Prim.Native.Nat.{◌+◌, ◌*◌, ◌/◌, ◌<◌}
use mathlib.Core.Path.{sym}
use lib.ListN.{length}
use Rattle.refusals.proofs.Laws.{scan_none, scan_miss, scan_hit, scan_end}
use Rattle.words.specs.Rows.{field}
use borrow.Author.Tests.{le-leb, lt-leb}
use Rattle.words.proofs.RowLaws.{field_within, rows_within}
use Rattle.insts.proofs.checks.below.Goals as goal

pub loop-i-init : goal.loop-i-init
loop-i-init c = (omega arith, omega arith, scan_none _ _)

pub overflow_mul-width : goal.overflow_mul-width
overflow_mul-width c =
    let within : c.args.width * c.loop-i.i + c.args.f < length (c.args.s.now) = field_within c.args.width (length (c.args.s.now) / c.args.width) c.loop-i.i c.args.f (length (c.args.s.now)) (omega arith) (omega arith) (rows_within c.args.width (c.args.s.now)) in
    omega (arith, within)

pub overflow_add-width : goal.overflow_add-width
overflow_add-width c =
    let within : c.args.width * c.loop-i.i + c.args.f < length (c.args.s.now) = field_within c.args.width (length (c.args.s.now) / c.args.width) c.loop-i.i c.args.f (length (c.args.s.now)) (omega arith) (omega arith) (rows_within c.args.width (c.args.s.now)) in
    omega (arith, within)

pub offset_bounds-s-width : goal.offset_bounds-s-width
offset_bounds-s-width c =
    let within : c.args.width * c.loop-i.i + c.args.f < length (c.args.s.now) = field_within c.args.width (length (c.args.s.now) / c.args.width) c.loop-i.i c.args.f (length (c.args.s.now)) (omega arith) (omega arith) (rows_within c.args.width (c.args.s.now)) in
    omega (arith, within)

pub bounds-s-width : goal.bounds-s-width
bounds-s-width c =
    let within : c.args.width * c.loop-i.i + c.args.f < length (c.args.s.now) = field_within c.args.width (length (c.args.s.now) / c.args.width) c.loop-i.i c.args.f (length (c.args.s.now)) (omega arith) (omega arith) (rows_within c.args.width (c.args.s.now)) in
    omega (arith, within)

pub returns-then-limit-wide : goal.returns-then-limit-wide
returns-then-limit-wide c =
    sym (scan_hit _ _ _ _ c.loop-i.invariant.2 (le-leb c.args.limit (field c.args.width (c.args.s.now) c.loop-i.i c.args.f) (omega arith)) (omega arith))

pub loop-i-preserved : goal.loop-i-preserved
loop-i-preserved c =
    (omega arith, omega arith, scan_miss _ _ _ c.loop-i.invariant.2 (lt-leb c.args.limit (field c.args.width (c.args.s.now) c.loop-i.i c.args.f) (omega arith)))

pub returns : goal.returns
returns c = sym (scan_end _ _ _ _ c.loop-i.invariant.2 (omega arith) (omega arith))
