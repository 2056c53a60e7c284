-- The test for powers of two, and numbers rounded up.
use Prim.Native.Nat.{ℕ, zero, suc, ◌+◌, ◌-◌, ◌*◌, ◌/◌, ◌%◌, ◌^◌, ◌≤◌, ◌<◌}
use native.Mathlib.Omega.{arith}
use native.Mathlib.Nat.{mul-mod_left, lt-div-mul-add, div-lt_iff_lt-mul, mul-le-mul_right, div-add-mod', div-mul-le_self, suc-mul}
use mathlib.Core.Path.{◌≡◌, ap, ◌∙◌}
use mathlib.Core.Logic.{⊎_elim}
use mathlib.Core.Bool.{true}
use lib.Dec.{eqb}
use borrow.Author.Tests.{eq-eqb, eqb-true}
use Rattle.words.proofs.Bools.{or_left, or_right, or_cases}
use Rattle.words.proofs.Points.{same}
use Rattle.fitting.specs.Layout.{round_up, Power, among_powers, is_power}

-- ---- powers of two

among_told : (n a : ℕ) → among_powers n a ≡ true → Power a
unfolding among_powers
among_told zero a e = absurd (let z : ◌≡◌ {A = ℕ} 0 1 = cc in omega arith)
among_told (suc n) a e = ⊎_elim (λ q. (n, eqb-true a (2 ^ n) q)) (λ q. among_told n a q) (or_cases (eqb a (2 ^ n)) (among_powers n a) e)

among_tells : (n a k : ℕ) → k < n → a ≡ 2 ^ k → among_powers n a ≡ true
unfolding among_powers
among_tells zero a k h e = absurd (omega arith)
among_tells (suc n) a k h e =
    same k n
    (λ q. or_left (eqb a (2 ^ n)) (among_powers n a) (eq-eqb a (2 ^ n) (e ∙ ap (λ (j : ℕ). 2 ^ j) q)))
    (λ d. or_right (eqb a (2 ^ n)) (among_powers n a) (among_tells n a k (omega arith) e))

power_over : (k : ℕ) → k < 2 ^ k
power_over zero = omega arith
power_over (suc k) = omega (arith, power_over k)

-- the test says what a power of two is
pub power_told : (a : ℕ) → is_power a ≡ true → Power a
power_told a e = among_told a a e

pub power_tells : (a : ℕ) → Power a → is_power a ≡ true
power_tells a (k, e) = among_tells a a k (omega (arith, power_over k)) e

pub power_positive : (a : ℕ) → is_power a ≡ true → 0 < a
power_positive a t = let (k, e) = power_told a t in omega (arith, power_over k)

-- ---- rounded up

-- a multiple, not below, and the least such
pub round_multiple : (d a : ℕ) → round_up d a % a ≡ 0
unfolding round_up
round_multiple d a = mul-mod_left ((d + (a - 1)) / a) a

pub round_over : (d a : ℕ) → 0 < a → d ≤ round_up d a
unfolding round_up
round_over d a h = let l = lt-div-mul-add {a = d + (a - 1)} {b = a} h in omega arith

pub round_least : (d a m : ℕ) → 0 < a → m % a ≡ 0 → d ≤ m → round_up d a ≤ m
unfolding round_up
round_least d a m h e l =
    let q = div-add-mod' m a in
    let t : (d + (a - 1)) < suc (m / a) * a = omega (arith, suc-mul (m / a) a) in
    let u = (div-lt_iff_lt-mul {k = a} {x = d + (a - 1)} {y = suc (m / a)} h).1 t in
    let v = mul-le-mul_right {m = (d + (a - 1)) / a} {n = m / a} a (omega arith) in
    omega arith

-- no more than one alignment over, so that it fits
pub round_under : (d a : ℕ) → round_up d a ≤ d + a
unfolding round_up
round_under d a = omega (arith, div-mul-le_self (d + (a - 1)) a)
