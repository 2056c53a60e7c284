-- `clash_of` meets its contract: what is skipped changes nothing.
use Prim.Native.Nat.{◌+◌, ◌<◌}
use native.Mathlib.Nat.{add-zero}
use mathlib.Core.Path.{sym, ◌∙◌}
use native.Mathlib.Omega.{arith}
use Rattle.ranges.specs.Points.{range_at}
use Rattle.clashing.proofs.ListedLaws.{view}
use Rattle.ranges.proofs.SkipLaws.{search_start}
use Rattle.ranges.proofs.SearchLaws.{ends_first, ends_last, splits_some, one_upright, two_upright, hit, skip_to_one, skip_to_two, over_one, over_two}
use Rattle.clashing.proofs.clash_of.Goals as goal

pub loop-i-init : goal.loop-i-init
loop-i-init g c = (c.count-n.ensures, c.count-m.ensures, omega arith, omega arith, search_start _ _ c.requires.0 c.requires.1)

pub returns-then-overlaps : goal.returns-then-overlaps
returns-then-overlaps g c =
    let k = c.loop-i.invariant in
    hit (view _ _ k.0) (view _ _ k.1) k.4 c.loop-i-test.true c.if-j-m.true (rw (c.at-x.ensures, c.at-y.ensures) at (sym c.overlaps.ensures ∙ c.if-overlaps.true))

pub loop-i-smaller-then-x-y : goal.loop-i-smaller-then-x-y
loop-i-smaller-then-x-y g c =
    let k = c.loop-i.invariant in
    let some : 0 < c.ending_before-i.result =
    splits_some (λ q. (range_at (g.A.Listed.list c.args.one.now) (c.loop-i.i + q)).end) _ _ _ (rw c.at-y.ensures at c.ending_before-i.ensures) (omega (arith, k.0, c.loop-i-test.true))
    (rw (add-zero c.loop-i.i) (ends_first _ _ _ _ (one_upright (view _ _ k.0) (view _ _ k.1) k.4 c.loop-i-test.true) (rw (c.at-x.ensures, c.at-y.ensures) at c.if-x-y.true) (rw (c.at-x.ensures, c.at-y.ensures) at (sym c.overlaps.ensures ∙ c.if-overlaps.false)))) in
    omega (arith, c.ending_before-i.ensures.within, some)

pub loop-i-preserved-then-x-y : goal.loop-i-preserved-then-x-y
loop-i-preserved-then-x-y g c =
    let k = c.loop-i.invariant in
    (k.0, k.1, omega (arith, c.ending_before-i.ensures.within), k.3, skip_to_one (view _ _ k.0) (view _ _ k.1) k.4 _ k.2 c.if-j-m.true (rw (sym k.0, c.at-y.ensures) at c.ending_before-i.ensures))

pub loop-i-smaller : goal.loop-i-smaller
loop-i-smaller g c =
    let k = c.loop-i.invariant in
    let some : 0 < c.ending_before-j.result =
    splits_some (λ q. (range_at (g.B.Listed.list c.args.two.now) (c.loop-i.j + q)).end) _ _ _ (rw c.at-x.ensures at c.ending_before-j.ensures) (omega (arith, k.1, c.if-j-m.true))
    (rw (add-zero c.loop-i.j) (ends_last _ _ _ _ (two_upright (view _ _ k.0) (view _ _ k.1) k.4 c.if-j-m.true) (rw (c.at-x.ensures, c.at-y.ensures) at c.if-x-y.false) (rw (c.at-x.ensures, c.at-y.ensures) at (sym c.overlaps.ensures ∙ c.if-overlaps.false)))) in
    omega (arith, c.ending_before-j.ensures.within, some)

pub loop-i-preserved : goal.loop-i-preserved
loop-i-preserved g c =
    let k = c.loop-i.invariant in
    (k.0, k.1, k.2, omega (arith, c.ending_before-j.ensures.within), skip_to_two (view _ _ k.0) (view _ _ k.1) k.4 _ k.3 c.loop-i-test.true (rw (sym k.1, c.at-x.ensures) at c.ending_before-j.ensures))

pub returns-else-j-m : goal.returns-else-j-m
returns-else-j-m g c = let k = c.loop-i.invariant in over_two (view _ _ k.0) (view _ _ k.1) k.4 c.if-j-m.false

pub returns-after-loop-i : goal.returns-after-loop-i
returns-after-loop-i g c = let k = c.loop-i.invariant in over_one (view _ _ k.0) (view _ _ k.1) k.4 c.loop-i-test.false
