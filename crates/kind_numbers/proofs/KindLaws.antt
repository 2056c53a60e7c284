-- A kind's number tells the kind, and no other number up to 2 does.
use Prim.Native.Nat.{ℕ, zero, suc, ◌≤◌, ◌<◌}
use native.Mathlib.Omega.{arith}
use mathlib.Core.Path.{◌≡◌, refl, ap}
use Rattle.carrying.specs.declared.Kind.{Kind}
use Rattle.carrying.specs.declared.Kind.TheVariants.{Unfollowed, Plain, Ending}
use Rattle.kind_numbers.specs.Numbers.{kind_number, kind_by}

-- what is answered may be lent
pub kind_told : (k : Kind) → kind_by (kind_number k) ≡ k
kind_told Unfollowed = refl
kind_told Plain = refl
kind_told Ending = refl

pub number_told : (n : ℕ) → n ≤ 2 → kind_number (kind_by n) ≡ n
number_told zero h = refl
number_told (suc zero) h = refl
number_told (suc (suc zero)) h = refl
number_told (suc (suc (suc n))) h = absurd (omega arith)

-- the kind, by what is known of its number
pub plain_kind : (n : ℕ) → n ≡ 1 → kind_by n ≡ Plain
plain_kind n e = ap kind_by e

pub ending_kind : (n : ℕ) → 1 < n → kind_by n ≡ Ending
ending_kind zero h = absurd (omega arith)
ending_kind (suc zero) h = absurd (omega arith)
ending_kind (suc (suc n)) h = refl

-- the number, by the kind
pub plain_number : (k : Kind) → kind_number k ≡ 1 → k ≡ Plain
plain_number Unfollowed e = absurd (omega arith)
plain_number Plain e = refl
plain_number Ending e = absurd (omega arith)

pub ending_number : (k : Kind) → 1 < kind_number k → k ≡ Ending
ending_number Unfollowed h = absurd (omega arith)
ending_number Plain h = absurd (omega arith)
ending_number Ending h = refl
