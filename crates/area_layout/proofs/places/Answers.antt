-- `places` meets its contract: each region begins where the one before ends.
use native.Mathlib.Omega.{arith}
use mathlib.Core.Path.{refl}
use Rattle.area_layout.proofs.places.Goals as goal

pub overflow_add-heads : goal.overflow_add-heads
overflow_add-heads c = omega (arith, c.requires.few_locals, c.requires.few_touches, c.requires.few_ends, c.requires.few_ranges)

pub overflow_add-nexts : goal.overflow_add-nexts
overflow_add-nexts c =
    omega (arith, c.requires.few_locals, c.requires.few_touches, c.requires.few_ends, c.requires.few_ranges)

pub overflow_add-nexts-2 : goal.overflow_add-nexts-2
overflow_add-nexts-2 c =
    omega (arith, c.requires.few_locals, c.requires.few_touches, c.requires.few_ends, c.requires.few_ranges)

pub overflow_add-at : goal.overflow_add-at
overflow_add-at c =
    omega (arith, c.requires.few_locals, c.requires.few_touches, c.requires.few_ends, c.requires.few_ranges)

pub overflow_add-at-2 : goal.overflow_add-at-2
overflow_add-at-2 c =
    omega (arith, c.requires.few_locals, c.requires.few_touches, c.requires.few_ends, c.requires.few_ranges)

pub overflow_add-result : goal.overflow_add-result
overflow_add-result c =
    omega (arith, c.requires.few_locals, c.requires.few_touches, c.requires.few_ends, c.requires.few_ranges)

pub returns : goal.returns
returns c = record { locals_are = refl; heads_at = refl; nexts_at = refl; touches_at = refl; ends_at = refl }
