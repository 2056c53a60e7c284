-- Numbers that differ pairwise: n of them below n are all the numbers below n.
use Prim.Native.Nat.{ℕ, zero, suc, ◌-◌, ◌≤◌, ◌<◌}
use mathlib.Core.Path.{◌≡◌, sym, ◌∙◌}
use mathlib.Core.Logic.{◌≢◌, ◌⊎◌, inl, inr}
use mathlib.Core.Bool.{cond}
use native.Mathlib.Omega.{arith}
use lib.Dec.{ltb, eqb}
use borrow.Author.Tests.{lt-ltb, le-ltb, eq-eqb, ne_eqb}
use Rattle.words.proofs.Points.{cut, same}

abbrev pub Differ : ℕ → (ℕ → ℕ) → Type 0
Differ n f = (j k : ℕ) → j < k → k < n → f j ≢ f k

-- the numbers other than m, without a gap
squeeze : ℕ → ℕ → ℕ
squeeze m x = cond (ltb x m) x (x - 1)

module _ (m x : ℕ) where
  squeeze_low : x < m → squeeze m x ≡ x
  unfolding squeeze
  squeeze_low h = rw (lt-ltb x m h)

  squeeze_high : m ≤ x → squeeze m x ≡ x - 1
  unfolding squeeze
  squeeze_high h = rw (le-ltb x m h)

  squeeze_lt : (n : ℕ) → x ≢ m → x < suc n → m < suc n → squeeze m x < n
  squeeze_lt n d h k = cut m x (λ l. omega (arith, squeeze_high l)) (λ l. omega (arith, squeeze_low l))

squeeze_differ : (m x y : ℕ) → x ≢ m → y ≢ m → x ≢ y → squeeze m x ≢ squeeze m y
squeeze_differ m x y a b d e =
    cut m x
    (λ l. cut m y (λ k. d (omega (arith, squeeze_high m x l, squeeze_high m y k))) (λ k. d (omega (arith, squeeze_high m x l, squeeze_low m y k))))
    (λ l. cut m y (λ k. d (omega (arith, squeeze_low m x l, squeeze_high m y k))) (λ k. d (omega (arith, squeeze_low m x l, squeeze_low m y k))))

-- n + 1 numbers below n do not differ
crowded : (n : ℕ) (f : ℕ → ℕ) → ((k : ℕ) → k < suc n → f k < n) → Differ (suc n) f → ⊥
crowded zero f low d = omega (arith, low 0 (omega arith))
crowded (suc n) f low d =
    crowded n (λ k. squeeze (f (suc n)) (f k))
    (λ k h. squeeze_lt (f (suc n)) (f k) n (d k (suc n) (omega arith) (omega arith)) (low k (omega arith)) (low (suc n) (omega arith)))
    (λ j k h l. squeeze_differ (f (suc n)) (f j) (f k) (d j (suc n) (omega arith) (omega arith)) (d k (suc n) (omega arith) (omega arith)) (d j k h (omega arith)))

-- a value among the first n, or not
find : (n : ℕ) (f : ℕ → ℕ) (m : ℕ) → ((k : ℕ) × (k < n) × (f k ≡ m)) ⊎ ((k : ℕ) → k < n → f k ≢ m)
find zero f m = inr (λ k h. absurd (omega arith))
find (suc n) f m = same (f n) m (λ e. inl (n, omega arith, e)) (λ e. go e (find n f m))
  where
    go : f n ≢ m → ((k : ℕ) × (k < n) × (f k ≡ m)) ⊎ ((k : ℕ) → k < n → f k ≢ m) → ((k : ℕ) × (k < suc n) × (f k ≡ m)) ⊎ ((k : ℕ) → k < suc n → f k ≢ m)
    go e (inl p) = inl (p.0, omega (arith, p.1), p.2)
    go e (inr p) = inr (λ k h. same k n (λ q. rw q e) (λ q. p k (omega arith)))

-- f with one value more
with_last : ℕ → (ℕ → ℕ) → ℕ → ℕ → ℕ
with_last n f m k = cond (eqb k n) m (f k)

at_last : (n : ℕ) (f : ℕ → ℕ) (m k : ℕ) → k ≡ n → with_last n f m k ≡ m
unfolding with_last
at_last n f m k e = rw (eq-eqb k n e)

at_other : (n : ℕ) (f : ℕ → ℕ) (m k : ℕ) → k ≢ n → with_last n f m k ≡ f k
unfolding with_last
at_other n f m k e = rw (ne_eqb k n e)

-- n numbers below n that differ: each number below n is one of them
pub all_taken : (n : ℕ) (f : ℕ → ℕ) → ((k : ℕ) → k < n → f k < n) → Differ n f → (m : ℕ) → m < n → (k : ℕ) × (k < n) × (f k ≡ m)
all_taken n f low d m l = go (find n f m)
  where
    go : ((k : ℕ) × (k < n) × (f k ≡ m)) ⊎ ((k : ℕ) → k < n → f k ≢ m) → (k : ℕ) × (k < n) × (f k ≡ m)
    go (inl p) = p
    go (inr p) = absurd (crowded n (with_last n f m)
        (λ k h. same k n (λ e. omega (arith, at_last n f m k e)) (λ e. omega (arith, at_other n f m k e, low k (omega arith))))
        (λ j k h g q. same k n
        (λ e. p j (omega arith) (sym (at_other n f m j (omega arith)) ∙ q ∙ at_last n f m k e))
        (λ e. d j k h (omega arith) (sym (at_other n f m j (omega arith)) ∙ q ∙ at_other n f m k e))))
