-- `along` meets its contract: no range before i is wrong.
use Prim.Native.Nat.{◌<◌}
use native.Mathlib.Omega.{arith}
use mathlib.Core.Path.{sym, ◌∙◌}
use mathlib.Core.Bool.{true}
use lib.ListN.{take, drop}
use Rattle.refusals.specs.declared.Refusal.TheVariants.{Want}
use Rattle.refusals.proofs.Laws.{scan_none, scan_miss, scan_hit, scan_end}
use Rattle.ranges.specs.Lent.{wrong_at}
use Rattle.ranges.specs.Forms.{areas_of}
use Rattle.ranges.proofs.LentLaws.{wrong_take}
use Rattle.range_walk.proofs.PartLaws.{part_length}
use Rattle.range_walk.proofs.WalkLaws.{told_wrong, told_right}
use Rattle.range_walk.proofs.along.Goals as goal

pub loop-i-init : goal.loop-i-init
loop-i-init c = scan_none _ _

pub returns-then-wrong : goal.returns-then-wrong
returns-then-wrong c =
    let a = c.args in
    let n = a.count in
    let rs = drop a.first (areas_of a.areas.now) in
    let i = c.loop-i.i in
    let l : i < n = c.loop-i-test.true in
    let hit = scan_hit Want (wrong_at true (take n rs)) i n c.loop-i.invariant (wrong_take true n rs i l ∙ sym c.wrong.ensures ∙ c.if-wrong.true) l in
    let t = told_wrong (take n rs) n i (part_length a.areas.now a.first n c.requires) hit in
    (c.tell.ensures.0 ∙ t.0, c.tell.ensures.1 ∙ t.1)

pub loop-i-preserved : goal.loop-i-preserved
loop-i-preserved c =
    let a = c.args in
    let rs = drop a.first (areas_of a.areas.now) in
    let i = c.loop-i.i in
    let l : i < a.count = c.loop-i-test.true in
    scan_miss Want (wrong_at true (take a.count rs)) i c.loop-i.invariant (wrong_take true a.count rs i l ∙ sym c.wrong.ensures ∙ c.if-wrong.false)

pub returns : goal.returns
returns c =
    let a = c.args in
    let n = a.count in
    let rs = drop a.first (areas_of a.areas.now) in
    let t = told_right (take n rs) n (part_length a.areas.now a.first n c.requires) (scan_end Want (wrong_at true (take n rs)) c.loop-i.i n c.loop-i.invariant (omega arith) (omega arith)) in
    (c.tell-2.ensures.0 ∙ t.0, c.tell-2.ensures.1 ∙ t.1)
