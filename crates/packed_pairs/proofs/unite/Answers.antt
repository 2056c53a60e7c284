-- `unite` meets its contract: the earlier front is taken up until both lists are over.
use mathlib.Core.Path.{refl, sym, ◌∙◌}
use native.Mathlib.Omega.{arith}
use Rattle.packed_pairs.proofs.UnitedLaws.{united_start, counts, next_is, united_one_in, united_two_in, united_room, united_one, united_two, united_done}
use Rattle.packed_pairs.proofs.unite.Goals as goal

pub loop-i-init : goal.loop-i-init
loop-i-init c = (refl, united_start _ _ _ _ _ _ c.requires.0 c.requires.1 c.requires.3 c.requires.4 c.requires.2 c.requires.5 c.requires.6)

pub overflow_add-i : goal.overflow_add-i
overflow_add-i c = omega (arith, counts c.loop-i.invariant.1)

pub overflow_add-x : goal.overflow_add-x
overflow_add-x c =
    omega (arith, united_one_in c.loop-i.invariant.1 (sym (next_is c.loop-i.invariant.1) ∙ sym c.one_first.ensures ∙ c.if-one_first.true) (omega arith))

pub offset_bounds-w-one : goal.offset_bounds-w-one
offset_bounds-w-one c =
    omega (arith, united_one_in c.loop-i.invariant.1 (sym (next_is c.loop-i.invariant.1) ∙ sym c.one_first.ensures ∙ c.if-one_first.true) (omega arith))

pub bounds-w-one : goal.bounds-w-one
bounds-w-one c =
    omega (arith, united_one_in c.loop-i.invariant.1 (sym (next_is c.loop-i.invariant.1) ∙ sym c.one_first.ensures ∙ c.if-one_first.true) (omega arith))

pub take_up-k-requires : goal.take_up-k-requires
take_up-k-requires c = united_room c.loop-i.invariant.1 (omega arith)

pub overflow_add-i-then-one_first : goal.overflow_add-i-then-one_first
overflow_add-i-then-one_first c =
    omega (
      arith,
      united_one_in c.loop-i.invariant.1
          (sym (next_is c.loop-i.invariant.1) ∙ sym c.one_first.ensures ∙ c.if-one_first.true)
          (omega arith),
    )

pub loop-i-smaller-then-one_first : goal.loop-i-smaller-then-one_first
loop-i-smaller-then-one_first c =
    omega (
      arith,
      united_one_in c.loop-i.invariant.1
          (sym (next_is c.loop-i.invariant.1) ∙ sym c.one_first.ensures ∙ c.if-one_first.true)
          (omega arith),
    )

pub loop-i-preserved-then-one_first : goal.loop-i-preserved-then-one_first
loop-i-preserved-then-one_first c = (
  omega arith,
  united_one c.loop-i.invariant.1 (omega arith) c.take_up-k.ensures (sym (next_is c.loop-i.invariant.1) ∙ sym c.one_first.ensures ∙ c.if-one_first.true)
      (united_one_in c.loop-i.invariant.1 (sym (next_is c.loop-i.invariant.1) ∙ sym c.one_first.ensures ∙ c.if-one_first.true) (omega arith)) refl,
)

pub overflow_add-x-else-one_first : goal.overflow_add-x-else-one_first
overflow_add-x-else-one_first c =
    omega (arith, united_two_in c.loop-i.invariant.1 (sym (next_is c.loop-i.invariant.1) ∙ sym c.one_first.ensures ∙ c.if-one_first.false))

pub offset_bounds-w-two : goal.offset_bounds-w-two
offset_bounds-w-two c =
    omega (arith, united_two_in c.loop-i.invariant.1 (sym (next_is c.loop-i.invariant.1) ∙ sym c.one_first.ensures ∙ c.if-one_first.false))

pub bounds-w-two : goal.bounds-w-two
bounds-w-two c =
    omega (arith, united_two_in c.loop-i.invariant.1 (sym (next_is c.loop-i.invariant.1) ∙ sym c.one_first.ensures ∙ c.if-one_first.false))

pub take_up-k-requires-else-one_first : goal.take_up-k-requires-else-one_first
take_up-k-requires-else-one_first c = united_room c.loop-i.invariant.1 (omega arith)

pub overflow_add-j : goal.overflow_add-j
overflow_add-j c =
    omega (
      arith,
      united_two_in c.loop-i.invariant.1
          (sym (next_is c.loop-i.invariant.1) ∙ sym c.one_first.ensures ∙ c.if-one_first.false),
    )

pub loop-i-smaller : goal.loop-i-smaller
loop-i-smaller c =
    omega (
      arith,
      united_two_in c.loop-i.invariant.1
          (sym (next_is c.loop-i.invariant.1) ∙ sym c.one_first.ensures ∙ c.if-one_first.false),
    )

pub loop-i-preserved : goal.loop-i-preserved
loop-i-preserved c = (
  omega arith,
  united_two c.loop-i.invariant.1 (omega arith) c.take_up-k-else-one_first.ensures
      (sym (next_is c.loop-i.invariant.1) ∙ sym c.one_first.ensures ∙ c.if-one_first.false) refl,
)

pub returns : goal.returns
returns c = united_done c.loop-i.invariant.1 (omega arith)
