-- Laws of sums that fall.
use Prim.Native.Nat.{ℕ, zero, suc, ◌≤◌, ◌<◌}
use mathlib.Core.Path.{◌≡◌, refl}
use mathlib.Core.Bool.{Bool, true, false, not}
use native.Mathlib.Omega.{arith}
use Rattle.words.proofs.Points.{same}
use Rattle.graph.specs.Inner.Work.{one}
use Rattle.graph.specs.Work.{sum_of}
use Rattle.graph.proofs.Sums.{one_most}

pub sum_le : (f g : ℕ → ℕ) (k : ℕ) → ((i : ℕ) → i < k → f i ≤ g i) → sum_of f k ≤ sum_of g k
unfolding sum_of
sum_le f g zero h = omega arith
sum_le f g (suc k) h = omega (arith, h k (omega arith), sum_le f g k (λ i l. h i (omega arith)))

pub sum_lt : (f g : ℕ → ℕ) (k j : ℕ) → ((i : ℕ) → i < k → f i ≤ g i) → j < k → f j < g j → sum_of f k < sum_of g k
unfolding sum_of
sum_lt f g zero j h l d = absurd (omega arith)
sum_lt f g (suc k) j h l d = same j k
    (λ e. let d' : f k < g k = rw e at d in omega (arith, sum_le f g k (λ i o. h i (omega arith))))
    (λ e. omega (arith, h k (omega arith), sum_lt f g k j (λ i o. h i (omega arith)) (omega arith) d))

pub sum_most : (f : ℕ → ℕ) (k : ℕ) → ((i : ℕ) → i < k → f i ≤ 1) → sum_of f k ≤ k
unfolding sum_of
sum_most f zero h = omega arith
sum_most f (suc k) h = omega (arith, h k (omega arith), sum_most f k (λ i l. h i (omega arith)))

-- a bit that is set stays so: what is missing does not rise
pub not_le : (a b : Bool) → (a ≡ true → b ≡ true) → one (not b) ≤ one (not a)
not_le true b h = rw (h refl) (omega arith)
not_le false b h = one_most (not b)

pub not_lt : (a b : Bool) → a ≡ false → b ≡ true → one (not b) < one (not a)
not_lt a b e f = rw (e, f) (omega arith)

pub one_le : (a b : Bool) → (a ≡ true → b ≡ true) → one a ≤ one b
one_le true b h = rw (h refl) (omega arith)
one_le false b h = omega arith

pub one_lt : (a b : Bool) → a ≡ false → b ≡ true → one a < one b
one_lt a b e f = rw (e, f) (omega arith)
