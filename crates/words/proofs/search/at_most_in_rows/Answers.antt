-- `words::search::at_most_in_rows` meets its contract: a turn keeps `Between`.
use Rattle.words.proofs.SearchLaws.{between_all, between_turn, between_none, between_last, taken_le, one_at_most, front_le}
use Rattle.words.proofs.RowLaws.{field_within}
use Rattle.words.specs.Rows.{field}
use lib.Dec.{leb}
use native.Mathlib.Omega.{arith}
use Prim.Native.Nat.{◌+◌, ◌*◌, ◌/◌, ◌<◌}
use lib.ListN.{length}
use Rattle.words.proofs.search.at_most_in_rows.Goals as goal

pub loop-left-init : goal.loop-left-init
loop-left-init c = between_all _ _ (front_le (λ i. field c.args.width c.args.s.now i c.args.f) _ _ c.requires.2)

pub overflow_mul-x : goal.overflow_mul-x
overflow_mul-x c =
    let within : c.args.width * (c.loop-left.lo + c.loop-left.left / 2) + c.args.f < length c.args.s.now = field_within c.args.width c.args.n (c.loop-left.lo + c.loop-left.left / 2) c.args.f (length c.args.s.now) (omega arith) (omega arith) (omega arith) in
    omega (arith, within)

pub overflow_add-x-in-loop-left : goal.overflow_add-x-in-loop-left
overflow_add-x-in-loop-left c =
    let within : c.args.width * (c.loop-left.lo + c.loop-left.left / 2) + c.args.f < length c.args.s.now = field_within c.args.width c.args.n (c.loop-left.lo + c.loop-left.left / 2) c.args.f (length c.args.s.now) (omega arith) (omega arith) (omega arith) in
    omega (arith, within)

pub offset_bounds-s-width : goal.offset_bounds-s-width
offset_bounds-s-width c =
    let within : c.args.width * (c.loop-left.lo + c.loop-left.left / 2) + c.args.f < length c.args.s.now = field_within c.args.width c.args.n (c.loop-left.lo + c.loop-left.left / 2) c.args.f (length c.args.s.now) (omega arith) (omega arith) (omega arith) in
    omega (arith, within)

pub bounds-s-width : goal.bounds-s-width
bounds-s-width c =
    let within : c.args.width * (c.loop-left.lo + c.loop-left.left / 2) + c.args.f < length c.args.s.now = field_within c.args.width c.args.n (c.loop-left.lo + c.loop-left.left / 2) c.args.f (length c.args.s.now) (omega arith) (omega arith) (omega arith) in
    within

pub overflow_mul-lo : goal.overflow_mul-lo
overflow_mul-lo c =
    omega (
      arith,
      taken_le (c.loop-left.left / 2) c.no_more.result (leb (field c.args.width c.args.s.now (c.loop-left.lo + c.loop-left.left / 2) c.args.f) c.args.point)
          c.no_more.ensures,
    )

pub overflow_add-lo : goal.overflow_add-lo
overflow_add-lo c =
    omega (
      arith,
      taken_le (c.loop-left.left / 2) c.no_more.result (leb (field c.args.width c.args.s.now (c.loop-left.lo + c.loop-left.left / 2) c.args.f) c.args.point)
          c.no_more.ensures,
    )

pub loop-left-preserved : goal.loop-left-preserved
loop-left-preserved c =
    between_turn c.loop-left.invariant (c.loop-left.left / 2) c.no_more.result (omega arith) (omega arith) c.no_more.ensures

pub returns-then-left-eq0 : goal.returns-then-left-eq0
returns-then-left-eq0 c = between_none c.loop-left.invariant (omega arith)

pub overflow_mul-width : goal.overflow_mul-width
overflow_mul-width c =
    let lastly : c.args.width * c.loop-left.lo + c.args.f < length c.args.s.now = field_within c.args.width c.args.n c.loop-left.lo c.args.f (length c.args.s.now) (omega arith) (omega arith) (omega arith) in
    omega (arith, lastly)

pub overflow_add-width : goal.overflow_add-width
overflow_add-width c =
    let lastly : c.args.width * c.loop-left.lo + c.args.f < length c.args.s.now = field_within c.args.width c.args.n c.loop-left.lo c.args.f (length c.args.s.now) (omega arith) (omega arith) (omega arith) in
    omega (arith, lastly)

pub offset_bounds-s-width-2 : goal.offset_bounds-s-width-2
offset_bounds-s-width-2 c =
    let lastly : c.args.width * c.loop-left.lo + c.args.f < length c.args.s.now = field_within c.args.width c.args.n c.loop-left.lo c.args.f (length c.args.s.now) (omega arith) (omega arith) (omega arith) in
    omega (arith, lastly)

pub bounds-s-width-2 : goal.bounds-s-width-2
bounds-s-width-2 c =
    let lastly : c.args.width * c.loop-left.lo + c.args.f < length c.args.s.now = field_within c.args.width c.args.n c.loop-left.lo c.args.f (length c.args.s.now) (omega arith) (omega arith) (omega arith) in
    lastly

pub overflow_add-result : goal.overflow_add-result
overflow_add-result c =
    omega (
      arith,
      one_at_most c.no_more-2.result (leb (field c.args.width c.args.s.now c.loop-left.lo c.args.f) c.args.point)
          c.no_more-2.ensures,
    )

pub returns : goal.returns
returns c = between_last c.loop-left.invariant c.no_more-2.result (omega arith) c.no_more-2.ensures
