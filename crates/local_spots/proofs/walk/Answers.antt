-- `local_spots::walk` meets its contract: the words of the rows behind the next one stand.
use Rattle.words.specs.Rows.{field}
use Rattle.chains.proofs.WalkLaws.{walk_start, walk_row, walk_back, walk_less, walk_more, walk_done}
use Rattle.local_spots.specs.Inner.{word_of}
use Rattle.local_spots.proofs.Bounds.{head_at_lem, step}
use Rattle.local_spots.proofs.WalkLaws.{row_whole}
use native.Mathlib.Omega.{arith}
use Prim.Native.Nat.{◌-◌, ◌*◌, ◌^◌, ◌<◌}
use mathlib.Core.Path.{refl}
use lib.ListN.{length, length-set}
use Rattle.local_spots.proofs.walk.Goals as goal

pub overflow_add-next : goal.overflow_add-next
overflow_add-next c =
    let room : length c.args.work.now * 8 < 2 ^ 63 = omega (arith, c.well_formed) in
    (head_at_lem c.requires.1 (room)).fits

pub offset_bounds-work-heads : goal.offset_bounds-work-heads
offset_bounds-work-heads c =
    let room : length c.args.work.now * 8 < 2 ^ 63 = omega (arith, c.well_formed) in
    (head_at_lem c.requires.1 (room)).in_bytes

pub bounds-work-heads : goal.bounds-work-heads
bounds-work-heads c =
    let room : length c.args.work.now * 8 < 2 ^ 63 = omega (arith, c.well_formed) in
    (head_at_lem c.requires.1 (room)).inside

pub loop-next-init : goal.loop-next-init
loop-next-init c =
    walk_start (λ i. word_of c.args.width (field c.args.width c.args.rows.now i)) c.requires.1 _ refl

pub overflow_sub-i : goal.overflow_sub-i
overflow_sub-i c =
    let room : length c.args.work.now * 8 < 2 ^ 63 = omega (arith, c.well_formed) in
    (step c.loop-next.invariant c.loop-next-test.true (room)).some

pub overflow_sub-to : goal.overflow_sub-to
overflow_sub-to c =
    let room : length c.args.work.now * 8 < 2 ^ 63 = omega (arith, c.well_formed) in
    (step c.loop-next.invariant c.loop-next-test.true (room)).room

pub word-requires : goal.word-requires
word-requires c =
    let room : length c.args.work.now * 8 < 2 ^ 63 = omega (arith, c.well_formed) in
    row_whole c.args.rows.now (c.loop-next.next - 1) c.requires.0
    (walk_row c.loop-next.invariant (c.loop-next.next - 1) (step c.loop-next.invariant c.loop-next-test.true (room)).is)

pub offset_bounds-work-to : goal.offset_bounds-work-to
offset_bounds-work-to c =
    let room : length c.args.work.now * 8 < 2 ^ 63 = omega (arith, c.well_formed) in
    (step c.loop-next.invariant c.loop-next-test.true (room)).put.in_bytes

pub bounds-work-to : goal.bounds-work-to
bounds-work-to c =
    let room : length c.args.work.now * 8 < 2 ^ 63 = omega (arith, c.well_formed) in
    (step c.loop-next.invariant c.loop-next-test.true (room)).put.inside

pub overflow_add-next-in-loop-next : goal.overflow_add-next-in-loop-next
overflow_add-next-in-loop-next c =
    let room : length c.args.work.now * 8 < 2 ^ 63 = omega (arith, c.well_formed) in
    (step c.loop-next.invariant c.loop-next-test.true (room)).link.fits

pub offset_bounds-work-nexts : goal.offset_bounds-work-nexts
offset_bounds-work-nexts c =
    let room : length c.args.work.now * 8 < 2 ^ 63 = omega (arith, c.well_formed) in
    (step c.loop-next.invariant c.loop-next-test.true (room)).link.in_bytes

pub bounds-work-nexts : goal.bounds-work-nexts
bounds-work-nexts c =
    let room : length c.args.work.now * 8 < 2 ^ 63 = omega (arith, c.well_formed) in
    rw length-set (step c.loop-next.invariant c.loop-next-test.true (room)).link.inside

pub loop-next-smaller : goal.loop-next-smaller
loop-next-smaller c =
    let room : length c.args.work.now * 8 < 2 ^ 63 = omega (arith, c.well_formed) in
    let s = step c.loop-next.invariant c.loop-next-test.true (room) in
    walk_less c.loop-next.invariant (c.loop-next.next - 1) _ s.is (walk_back c.requires.1 c.loop-next.invariant _ (c.loop-next.next - 1) (c.loop-next.to - 1) s.is s.down)

pub loop-next-preserved : goal.loop-next-preserved
loop-next-preserved c =
    let room : length c.args.work.now * 8 < 2 ^ 63 = omega (arith, c.well_formed) in
    let s = step c.loop-next.invariant c.loop-next-test.true (room) in
    walk_more c.loop-next.invariant _ (c.loop-next.next - 1) (c.loop-next.to - 1) _ s.is s.down c.word.ensures
    (walk_back c.requires.1 c.loop-next.invariant _ (c.loop-next.next - 1) (c.loop-next.to - 1) s.is s.down)

pub overflow_sub-result : goal.overflow_sub-result
overflow_sub-result c = c.loop-next.invariant.to_le

pub shape_of-work : goal.shape_of-work
shape_of-work c = c.loop-next.invariant.kept.len

pub returns : goal.returns
returns c = walk_done c.loop-next.invariant c.loop-next-test.false
