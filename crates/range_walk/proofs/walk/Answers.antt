-- `walk` meets its contract: absent, outside, or as it is told along the part.
use mathlib.Core.Path.{◌∙◌}
use native.Mathlib.Omega.{arith}
use Rattle.range_walk.proofs.WalkLaws.{walk_absent, walk_outside, walk_inside}
use Rattle.range_walk.proofs.walk.Goals as goal

pub returns-then-present-eq0 : goal.returns-then-present-eq0
returns-then-present-eq0 c =
    let a = c.args in
    let t = walk_absent a.areas.now a.present a.first a.count c.if-present-eq0.true in
    (c.tell.ensures.0 ∙ t.0, c.tell.ensures.1 ∙ t.1)

pub returns-then-areas-f : goal.returns-then-areas-f
returns-then-areas-f c =
    let a = c.args in
    let t = walk_outside a.areas.now a.present a.first a.count c.if-present-eq0.false (omega arith) in
    (c.tell-then-areas-f.ensures.0 ∙ t.0, c.tell-then-areas-f.ensures.1 ∙ t.1)

pub returns : goal.returns
returns c =
    let a = c.args in
    walk_inside a.areas.now a.present a.first a.count c.if-present-eq0.false (omega arith) _ _ c.along.ensures
