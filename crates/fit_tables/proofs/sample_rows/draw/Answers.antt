-- `draw` meets its contract: the row is cleared, then its points are set.
use mathlib.Core.Logic.{inl, inr}
use Rattle.fit_tables.proofs.DrawLaws.{drawn_none, drawn_points}
use native.Mathlib.Omega.{arith}
use Rattle.fit_tables.specs.Inner.{order_at}
use Rattle.fit_tables.proofs.sample_rows.draw.Goals as goal

pub returns-then-x-lt1 : goal.returns-then-x-lt1
returns-then-x-lt1 c =
    drawn_none c.args.w.now c.args.t c.args.k c.args.row.at c.args.row.width c.args.row.step (inl (omega arith))

pub returns-then-row-lt1 : goal.returns-then-row-lt1
returns-then-row-lt1 c =
    drawn_none c.args.w.now c.args.t c.args.k c.args.row.at c.args.row.width c.args.row.step (inr (omega arith))

pub first_point-first-requires : goal.first_point-first-requires
first_point-first-requires c =
    (omega (arith, (c.requires.0.proper (order_at c.args.w.now c.args.t c.args.k) c.requires.1 (omega arith)).inside, c.requires.3, c.requires.4, c.fill.auto.w), c.requires.6)

pub points-last-requires : goal.points-last-requires
points-last-requires c =
    let the-fill = c.fill in
    (omega (arith, c.requires.4, (the-fill).auto.w), omega (arith, (c.requires.0.proper (order_at c.args.w.now c.args.t c.args.k) c.requires.1 (omega arith)).inside, c.requires.3), omega arith, c.requires.5, c.requires.6, c.requires.7)

pub choose-word-requires : goal.choose-word-requires
choose-word-requires c =
    let the-fill = c.fill in
    omega (arith, c.requires.4, c.points-last.ensures.within, c.points-last.ensures.len, (the-fill).auto.w)

pub overflow_add-result : goal.overflow_add-result
overflow_add-result c =
    let the-fill = c.fill in
    omega (arith, c.requires.4, c.choose-word.ensures, c.points-last.ensures.len, (the-fill).auto.w)

pub offset_bounds-w-at : goal.offset_bounds-w-at
offset_bounds-w-at c =
    let the-fill = c.fill in
    omega (arith, c.requires.4, c.choose-word.ensures, c.points-last.ensures.len, (the-fill).auto.w)

pub bounds-w-at : goal.bounds-w-at
bounds-w-at c =
    let the-fill = c.fill in
    let the-points = c.points-last in
    omega (arith, c.requires.4, c.choose-word.ensures, (the-points).ensures.len, (the-fill).auto.w)

pub returns : goal.returns
returns c =
    drawn_points c.args.w.now c.args.t c.args.k c.args.row.at c.args.row.width c.args.row.step c.requires.0 c.requires.1 c.requires.3 c.requires.4 (omega (arith, c.if-x-lt1.false)) c.fill.ensures c.points-last.ensures _ c.choose-word.ensures
