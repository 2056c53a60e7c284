-- `local_spots::word` meets its contract: a touch packed, or a point.
use Rattle.local_spots.proofs.WalkLaws.{word_touch, word_point}
use native.Mathlib.Omega.{arith}
use Prim.Native.Nat.{◌+◌, ◌*◌}
use mathlib.Core.Path.{◌∙◌}
use Rattle.words.specs.Widths.{stop_width}
use Rattle.local_spots.proofs.word.Goals as goal

pub overflow_mul-i : goal.overflow_mul-i
overflow_mul-i c = omega (arith, c.requires.0 c.if-width-eq3.true)

pub overflow_add-i : goal.overflow_add-i
overflow_add-i c = omega (arith, c.requires.0 c.if-width-eq3.true)

pub offset_bounds-rows-i : goal.offset_bounds-rows-i
offset_bounds-rows-i c = omega (arith, c.requires.0 c.if-width-eq3.true)

pub bounds-rows-i : goal.bounds-rows-i
bounds-rows-i c = omega (arith, c.requires.0 c.if-width-eq3.true)

pub overflow_mul-i-then-width-eq3 : goal.overflow_mul-i-then-width-eq3
overflow_mul-i-then-width-eq3 c = omega (arith, c.requires.0 c.if-width-eq3.true)

pub overflow_add-i-then-width-eq3 : goal.overflow_add-i-then-width-eq3
overflow_add-i-then-width-eq3 c = omega (arith, c.requires.0 c.if-width-eq3.true)

pub offset_bounds-rows-i-then-width-eq3 : goal.offset_bounds-rows-i-then-width-eq3
offset_bounds-rows-i-then-width-eq3 c = omega (arith, c.requires.0 c.if-width-eq3.true)

pub bounds-rows-i-then-width-eq3 : goal.bounds-rows-i-then-width-eq3
bounds-rows-i-then-width-eq3 c = omega (arith, c.requires.0 c.if-width-eq3.true)

pub returns-then-width-eq3 : goal.returns-then-width-eq3
returns-then-width-eq3 c =
    c.pack.ensures ∙ word_touch c.args.width c.args.i c.args.rows.now c.if-width-eq3.true

pub overflow_mul-result : goal.overflow_mul-result
overflow_mul-result c = let z = (c.requires.1 c.if-width-eq3.false).1 in omega arith

pub overflow_add-result : goal.overflow_add-result
overflow_add-result c = let z = (c.requires.1 c.if-width-eq3.false).1 in omega arith

pub offset_bounds-rows-i-2 : goal.offset_bounds-rows-i-2
offset_bounds-rows-i-2 c = let z = (c.requires.1 c.if-width-eq3.false).1 in omega arith

pub bounds-rows-i-2 : goal.bounds-rows-i-2
bounds-rows-i-2 c = let z = (c.requires.1 c.if-width-eq3.false).1 in omega arith

pub overflow_cast-result : goal.overflow_cast-result
overflow_cast-result c = let h = c.type_inv.rows (stop_width * c.args.i + 1) in omega arith

pub returns : goal.returns
returns c =
    word_point c.args.width c.args.i c.args.rows.now (c.requires.1 c.if-width-eq3.false).0
