-- `unite` meets its contract: the earlier front is taken up until both lists are over.
use Prim.Native.Nat.{ℕ, ◌+◌, ◌-◌, ◌*◌, ◌^◌, ◌≤◌, ◌<◌}
use mathlib.Core.Path.{◌≡◌, sym, ◌∙◌}
use native.Mathlib.Omega.{arith}
use Rattle.columns.proofs.UniteLaws.{to_start, to_counts, to_room, to_one_in, to_two_in, to_one, to_two, to_done}
use mir.Syntax.{w64}
use mir.Val.{Fits}
use Rattle.columns.proofs.unite.Goals as goal

-- what is asked of the numbers alone: i of a and j of b are taken up, into m
both : (a b m : ℕ) → a + b ≤ m → m * 4 < 2 ^ 63 → Fits w64 (a + b)
both a b m h g = omega arith

so_far_lem : (i j a b m : ℕ) → i ≤ a → j ≤ b → a + b ≤ m → m * 4 < 2 ^ 63 → Fits w64 (i + j)
so_far_lem i j a b m h k l g = omega arith

fits : (i n : ℕ) → i < n → n * 4 < 2 ^ 63 → Fits w64 (i * 4)
fits i n h g = omega arith

next : (i n : ℕ) → i < n → n * 4 < 2 ^ 63 → Fits w64 (i + 1)
next i n h g = omega arith

as-lt : (i m n : ℕ) → m ≡ n → i < m → i < n
as-lt i m n e h = omega arith

less_one : (i j n : ℕ) → i + j < n → n - (i + 1 + j) < n - (i + j)
less_one i j n h = omega arith

less_two : (i j n : ℕ) → i + j < n → n - (i + (j + 1)) < n - (i + j)
less_two i j n h = omega arith

pub overflow_add-total : goal.overflow_add-total
overflow_add-total c =
    both _ _ _ c.requires.3 c.well_formed.1.1.1.1.0.1

pub loop-i-init : goal.loop-i-init
loop-i-init c =
    to_start _ _ _ _ _ _ c.requires.0 c.requires.1 c.requires.2 c.requires.3 c.requires.4 c.requires.5

pub overflow_add-i : goal.overflow_add-i
overflow_add-i c =
    so_far_lem _ _ _ _ _ (to_counts c.loop-i.invariant).0 (to_counts c.loop-i.invariant).1 c.requires.3 c.well_formed.1.1.1.1.0.1

pub one_first-requires : goal.one_first-requires
one_first-requires c = (c.loop-i.invariant.one, c.loop-i.invariant.two)

pub offset_bounds-start-i : goal.offset_bounds-start-i
offset_bounds-start-i c =
    fits _ _ (to_one_in c.loop-i.invariant c.one_first.ensures c.if-one_first.true
    c.loop-i-test.true) c.well_formed.0.1

pub bounds-start-i : goal.bounds-start-i
bounds-start-i c = to_one_in c.loop-i.invariant c.one_first.ensures c.if-one_first.true c.loop-i-test.true

pub offset_bounds-end-i : goal.offset_bounds-end-i
offset_bounds-end-i c =
    fits _ _ (to_one_in c.loop-i.invariant c.one_first.ensures
    c.if-one_first.true c.loop-i-test.true)
    c.well_formed.0.1

pub bounds-end-i : goal.bounds-end-i
bounds-end-i c =
    as-lt _ _ _ c.loop-i.invariant.one (to_one_in c.loop-i.invariant c.one_first.ensures c.if-one_first.true
    c.loop-i-test.true)

pub take_up-k-requires : goal.take_up-k-requires
take_up-k-requires c =
    ((c.loop-i.invariant.starts_len ∙ c.loop-i.invariant.out ∙ sym c.loop-i.invariant.ends_len), to_room c.loop-i.invariant c.loop-i-test.true)

pub overflow_add-i-then-one_first : goal.overflow_add-i-then-one_first
overflow_add-i-then-one_first c =
    next _ _ (to_one_in c.loop-i.invariant
    c.one_first.ensures
    c.if-one_first.true
    c.loop-i-test.true)
    c.well_formed.0.1

pub loop-i-smaller-then-one_first : goal.loop-i-smaller-then-one_first
loop-i-smaller-then-one_first c = less_one _ _ _ c.loop-i-test.true

pub loop-i-preserved-then-one_first : goal.loop-i-preserved-then-one_first
loop-i-preserved-then-one_first c =
    to_one c.loop-i.invariant c.one_first.ensures c.take_up-k.auto.out_start
    c.take_up-k.auto.out_end c.if-one_first.true c.loop-i-test.true c.take_up-k.ensures

pub offset_bounds-other_start-j : goal.offset_bounds-other_start-j
offset_bounds-other_start-j c = fits _ _ (to_two_in c.loop-i.invariant c.one_first.ensures c.if-one_first.false) c.well_formed.1.1.0.1

pub bounds-other_start-j : goal.bounds-other_start-j
bounds-other_start-j c = to_two_in c.loop-i.invariant c.one_first.ensures c.if-one_first.false

pub offset_bounds-other_end-j : goal.offset_bounds-other_end-j
offset_bounds-other_end-j c =
    fits _ _
    (to_two_in c.loop-i.invariant c.one_first.ensures c.if-one_first.false)
    c.well_formed.1.1.0.1

pub bounds-other_end-j : goal.bounds-other_end-j
bounds-other_end-j c =
    omega (arith, c.loop-i.invariant.two, to_two_in c.loop-i.invariant c.one_first.ensures c.if-one_first.false)

pub take_up-k-requires-else-one_first : goal.take_up-k-requires-else-one_first
take_up-k-requires-else-one_first c =
    ((c.loop-i.invariant.starts_len ∙ c.loop-i.invariant.out ∙ sym c.loop-i.invariant.ends_len), to_room c.loop-i.invariant c.loop-i-test.true)

pub overflow_add-j : goal.overflow_add-j
overflow_add-j c =
    next _ _ (to_two_in c.loop-i.invariant
    c.one_first.ensures
    c.if-one_first.false)
    c.well_formed.1.1.0.1

pub loop-i-smaller : goal.loop-i-smaller
loop-i-smaller c = less_two _ _ _ c.loop-i-test.true

pub loop-i-preserved : goal.loop-i-preserved
loop-i-preserved c =
    to_two c.loop-i.invariant c.one_first.ensures c.take_up-k-else-one_first.auto.out_start
    c.take_up-k-else-one_first.auto.out_end c.if-one_first.false c.take_up-k-else-one_first.ensures

pub returns : goal.returns
returns c = to_done c.loop-i.invariant c.loop-i-test.false
