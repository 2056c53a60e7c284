-- What single functions rest on: the test of one member.
use Prim.Native.Nat.{ℕ, ◌+◌, ◌-◌, ◌<◌}
use native.Mathlib.Omega.{arith}
use mathlib.Core.Path.{◌≡◌, ap, sym, ◌∙◌, subst}
use mathlib.Core.Bool.{Bool, false, not}
use mathlib.Core.Option.{Option}
use mathlib.Core.List.{List}
use lib.ListN.{take, drop}
use Rattle.words.specs.Inner.{part}
use Rattle.words.proofs.Points.{same}
use Rattle.words.proofs.RegionLaws.{lent_part}
use Rattle.ranges.specs.declared.Range.{Range}
use Rattle.ranges.specs.Points.{Apart}
use Rattle.ranges.specs.Merged.{clashes}
use Rattle.ranges.specs.Inner.{unpacked}
use Rattle.fitting.specs.Plan.{joinable}
use Rattle.fit_tables.specs.Inner.{first_of, count_of, area_in}
use Rattle.fit_tables.proofs.TableLaws.{area_none, area_some}

-- ---- one member

pub part_apart : (w : List ℕ) (f e n : ℕ) → e ≡ f + n → Apart (unpacked (part f n w)) → Apart (unpacked (take (e - f) (drop f w)))
part_apart w f e n h a = subst (λ (l : List ℕ). Apart (unpacked l)) (sym (lent_part w f e n h)) a

pub absent : (w : List ℕ) (at x : ℕ) (a : List Range) → x < 1 → false ≡ joinable (area_in w at x) a
absent w at x a h = sym (ap (λ (o : Option (List Range)). joinable o a) (area_none w at x (omega arith)))

pub tested : (w : List ℕ) (at x from count f e t : ℕ) (b : Bool) → 0 < x → f ≡ at + first_of x → e ≡ f + count_of x → t ≡ from + count
    → b ≡ clashes (unpacked (take (e - f) (drop f w))) (unpacked (take (t - from) (drop from w))) → not b ≡ joinable (area_in w at x) (unpacked (part from count w))
tested w at x from count f e t b h i j k z =
    ap not (z ∙ ap (λ (l : List ℕ). clashes (unpacked l) (unpacked (take (t - from) (drop from w)))) (lent_part w f e (count_of x) j)
    ∙ ap (λ (l : List ℕ). clashes (unpacked (part f (count_of x) w)) (unpacked l)) (lent_part w from t count k)
    ∙ ap (λ (g : ℕ). clashes (unpacked (part g (count_of x) w)) (unpacked (part from count w))) i)
    ∙ sym (ap (λ (o : Option (List Range)). joinable o (unpacked (part from count w))) (area_some w at x h))

-- one more index at which a test fails
pub missed : (t : ℕ → Bool) (c : ℕ) → ((j : ℕ) → j < c → t j ≡ false) → t c ≡ false → (j : ℕ) → j < c + 1 → t j ≡ false
missed t c f e j h = same j c (λ q. rw q e) (λ d. f j (omega arith))
