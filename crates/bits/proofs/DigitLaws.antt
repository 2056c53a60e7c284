-- Bits of words: of `|`, `&`, `^` and a power of two, of a word without its lowest set bit, and the places of the set bits.
use mathlib.Core.Path.{◌≡◌, refl, sym, ap, ◌∙◌}
use mathlib.Core.Logic.{◌≢◌, ⊎_elim}
use mathlib.Core.Bool.{Bool, true, false, cond, not, ◌||◌, ◌&&◌}
use mathlib.Core.List.Memᴰ
use mathlib.Core.List.{List, [], ◌∷◌, Memᴰ}
use Prim.Native.Nat.{ℕ, zero, suc, ◌+◌, ◌-◌, ◌*◌, ◌/◌, ◌%◌, ◌^◌, ◌≤◌, ◌<◌, min, max}
use native.Mathlib.Nat.{mod-eq_of_lt, one-mul, div-one, zero-div, add-zero, suc-add, add-suc}
use native.Mathlib.Omega.{arith}
use native.Mathlib.Numerals.{one-add}
use lib.Bits.{bit_and, bit_or, bit_xor, differ, and_step, or_step, xor_step, and_shr, or_shr, xor_shr, and_mask, and_self, and_le_r}
use lib.Pow.{pow-lt, shr-shr}
use lib.Count.{count_trailing_zeros, under, trailing_le}
use lib.Dec.{eqb}
use lib.ListN.{length}
use borrow.Author.Tests.{eq-eqb, ne_eqb, eqb-true}
use Rattle.bits.specs.Bits.{digit, bit_of}
use Rattle.bits.specs.Inner.{places, Lowest, Without}
use Rattle.words.proofs.Points.{cut, same}

-- ---- digits

pub digit_zero : (x : ℕ) → digit 0 x ≡ x % 2
digit_zero x = ap (λ (y : ℕ). y % 2) (div-one x)

pub digit_suc : (k x : ℕ) → digit (suc k) x ≡ digit k (x / 2)
digit_suc k x = ap (λ (q : ℕ). x / 2 ^ q % 2) (sym (one-add k)) ∙ ap (λ (y : ℕ). y % 2) (sym (shr-shr x 1 k))

-- what holds of the four pairs of digits holds of any two
on_digits : (P : ℕ → ℕ → Type 0) → P 0 0 → P 0 1 → P 1 0 → P 1 1 → (p q : ℕ) → p < 2 → q < 2 → P p q
on_digits P a b c d zero zero h k = a
on_digits P a b c d zero (suc zero) h k = b
on_digits P a b c d (suc zero) zero h k = c
on_digits P a b c d (suc zero) (suc zero) h k = d
on_digits P a b c d zero (suc (suc q)) h k = absurd (omega arith)
on_digits P a b c d (suc zero) (suc (suc q)) h k = absurd (omega arith)
on_digits P a b c d (suc (suc p)) q h k = absurd (omega arith)

digit_lt : (k x : ℕ) → digit k x < 2
digit_lt k x = omega arith

digit_or : (k a b : ℕ) → digit k (bit_or a b) ≡ max (digit k a) (digit k b)
digit_or k a b = rw (or_shr a b k) (omega (arith, or_step (a / 2 ^ k) (b / 2 ^ k)))

digit_and : (k a b : ℕ) → digit k (bit_and a b) ≡ min (digit k a) (digit k b)
digit_and k a b = rw (and_shr a b k) (omega (arith, and_step (a / 2 ^ k) (b / 2 ^ k)))

digit_xor : (k a b : ℕ) → digit k (bit_xor a b) ≡ differ (digit k a) (digit k b)
digit_xor k a b =
    let small : differ (digit k a) (digit k b) < 2 = on_digits (λ p q. differ p q < 2) (omega arith) (omega arith) (omega arith) (omega arith) (digit k a) (digit k b) (digit_lt k a) (digit_lt k b) in
    rw (xor_shr a b k) (omega (arith, xor_step (a / 2 ^ k) (b / 2 ^ k)))

-- ---- bits of the operations

pub bit_or_lem : (a b k : ℕ) → bit_of (bit_or a b) k ≡ (bit_of a k || bit_of b k)
bit_or_lem a b k =
    ap (λ (y : ℕ). eqb y 1) (digit_or k a b)
    ∙ on_digits (λ p q. eqb (max p q) 1 ≡ (eqb p 1 || eqb q 1)) refl refl refl refl (digit k a) (digit k b) (digit_lt k a) (digit_lt k b)

pub bit_and_lem : (a b k : ℕ) → bit_of (bit_and a b) k ≡ (bit_of a k && bit_of b k)
bit_and_lem a b k =
    ap (λ (y : ℕ). eqb y 1) (digit_and k a b)
    ∙ on_digits (λ p q. eqb (min p q) 1 ≡ (eqb p 1 && eqb q 1)) refl refl refl refl (digit k a) (digit k b) (digit_lt k a) (digit_lt k b)

pub bit_xor_lem : (a b k : ℕ) → bit_of (bit_xor a b) k ≡ cond (bit_of a k) (not (bit_of b k)) (bit_of b k)
bit_xor_lem a b k =
    ap (λ (y : ℕ). eqb y 1) (digit_xor k a b)
    ∙ on_digits (λ p q. eqb (differ p q) 1 ≡ cond (eqb p 1) (not (eqb q 1)) (eqb q 1)) refl refl refl refl (digit k a) (digit k b) (digit_lt k a) (digit_lt k b)

pub bit_zero : (k : ℕ) → bit_of 0 k ≡ false
bit_zero k = ap (λ (y : ℕ). eqb (y % 2) 1) (zero-div (2 ^ k))

half : (j : ℕ) → 2 ^ suc j / 2 ≡ 2 ^ j
half j = omega arith

digit_same : (j : ℕ) → digit j (2 ^ j) ≡ 1
digit_same zero = refl
digit_same (suc j) = digit_suc j (2 ^ suc j) ∙ ap (digit j) (half j) ∙ digit_same j

digit_other : (k j : ℕ) → k ≢ j → digit k (2 ^ j) ≡ 0
digit_other zero zero h = absurd (h refl)
digit_other zero (suc j) h = digit_zero (2 ^ suc j) ∙ omega arith
digit_other (suc k) zero h = digit_suc k 1 ∙ ap (λ (y : ℕ). y % 2) (zero-div (2 ^ k))
digit_other (suc k) (suc j) h = digit_suc k (2 ^ suc j) ∙ ap (digit k) (half j) ∙ digit_other k j (λ e. h (ap suc e))

-- 2 ^ j has the one bit j
pub bit_power : (j k : ℕ) → bit_of (2 ^ j) k ≡ eqb k j
bit_power j k =
    same k j
    (λ e. ap (bit_of (2 ^ j)) e ∙ ap (λ (y : ℕ). eqb y 1) (digit_same j) ∙ sym (eq-eqb k j e))
    (λ e. ap (λ (y : ℕ). eqb y 1) (digit_other k j e) ∙ sym (ne_eqb k j e))

-- what a shift of one gives, and a test of one bit
pub shift_one : (j : ℕ) → j < 64 → (1 * 2 ^ j) % 2 ^ 64 ≡ 2 ^ j
shift_one j h = ap (λ (y : ℕ). y % 2 ^ 64) (one-mul (2 ^ j)) ∙ mod-eq_of_lt (pow-lt h)

pub low_bit : (y : ℕ) → bit_and y 1 ≡ y % 2
low_bit y = and_mask y 1

-- two different words differ in a bit
pub differ_at : (d x y : ℕ) → x < 2 ^ d → y < 2 ^ d → x ≢ y → (k : ℕ) × (k < d) × (digit k x ≢ digit k y)
differ_at zero x y h l n = absurd (n (omega arith))
differ_at (suc d) x y h l n =
    let ih = differ_at d (x / 2) (y / 2) (omega arith) (omega arith) in
    same (x % 2) (y % 2)
    (λ e. let r = ih (λ q. n (omega arith)) in let s = r.1 in (suc r.0, omega arith, λ q. r.2 (sym (digit_suc r.0 x) ∙ q ∙ digit_suc r.0 y)))
    (λ e. (0, omega arith, λ q. e (sym (digit_zero x) ∙ q ∙ digit_zero y)))

-- ---- the lowest set bit

low_odd : (x : ℕ) → x % 2 ≡ 1 → bit_and x (x - 1) ≡ x / 2 * 2
low_odd x h =
    let e : (x - 1) / 2 ≡ x / 2 = omega arith in
    let z : (x - 1) % 2 ≡ 0 = omega arith in
    and_step x (x - 1) ∙ ap (λ (y : ℕ). bit_and (x / 2) y * 2 + min (x % 2) ((x - 1) % 2)) e ∙ omega (arith, and_self (x / 2))

low_even : (x : ℕ) → 0 < x → x % 2 ≡ 0 → bit_and x (x - 1) ≡ bit_and (x / 2) (x / 2 - 1) * 2
low_even x p h =
    let e : (x - 1) / 2 ≡ x / 2 - 1 = omega arith in
    and_step x (x - 1) ∙ ap (λ (y : ℕ). bit_and (x / 2) y * 2 + min (x % 2) ((x - 1) % 2)) e ∙ omega arith

-- by cases: the lowest digit
parity : {A : Type 0} (x : ℕ) → (x % 2 ≡ 0 → A) → (x % 2 ≡ 1 → A) → A
parity x f g = same (x % 2) 0 f (λ n. g (omega arith))

trailing_odd : (d x : ℕ) → x % 2 ≡ 1 → count_trailing_zeros (suc d) x ≡ 0
unfolding count_trailing_zeros
trailing_odd d x e = ap (λ (r : ℕ). under r (count_trailing_zeros d (x / 2))) e

trailing_even : (d x : ℕ) → x % 2 ≡ 0 → count_trailing_zeros (suc d) x ≡ suc (count_trailing_zeros d (x / 2))
unfolding count_trailing_zeros
trailing_even d x e = ap (λ (r : ℕ). under r (count_trailing_zeros d (x / 2))) e

double_suc : (k y : ℕ) → digit (suc k) (y * 2) ≡ digit k y
double_suc k y = let e : y * 2 / 2 ≡ y = omega arith in digit_suc k (y * 2) ∙ ap (digit k) e

double_zero : (y : ℕ) → digit 0 (y * 2) ≡ 0
double_zero y = digit_zero (y * 2) ∙ omega arith

pub low_within : (d x : ℕ) → 0 < x → x < 2 ^ d → count_trailing_zeros d x < d
low_within zero x p h = absurd (omega arith)
low_within (suc d) x p h =
    let ih = low_within d (x / 2) in
    parity x (λ e. omega (arith, trailing_even d x e, ih (omega arith) (omega arith))) (λ e. omega (arith, trailing_odd d x e))

low_set : (d x : ℕ) → 0 < x → x < 2 ^ d → digit (count_trailing_zeros d x) x ≡ 1
low_set zero x p h = absurd (omega arith)
low_set (suc d) x p h =
    let ih = low_set d (x / 2) in
    parity x
    (λ e. ap (λ (k : ℕ). digit k x) (trailing_even d x e) ∙ digit_suc (count_trailing_zeros d (x / 2)) x ∙ ih (omega arith) (omega arith))
    (λ e. ap (λ (k : ℕ). digit k x) (trailing_odd d x e) ∙ digit_zero x ∙ e)

low_least : (d x k : ℕ) → k < count_trailing_zeros d x → digit k x ≡ 0
low_least zero x k h = absurd (omega (arith, trailing_le 0 x))
low_least (suc d) x zero h =
    parity x (λ e. digit_zero x ∙ e) (λ e. absurd (omega (arith, trailing_odd d x e)))
low_least (suc d) x (suc k) h =
    let ih = low_least d (x / 2) k in
    parity x (λ e. digit_suc k x ∙ ih (omega (arith, trailing_even d x e))) (λ e. absurd (omega (arith, trailing_odd d x e)))

-- the word without it
low_gone : (d x : ℕ) → 0 < x → x < 2 ^ d → digit (count_trailing_zeros d x) (bit_and x (x - 1)) ≡ 0
low_gone zero x p h = absurd (omega arith)
low_gone (suc d) x p h =
    let ih = low_gone d (x / 2) in
    parity x
    (λ e. ap (λ (k : ℕ). digit k (bit_and x (x - 1))) (trailing_even d x e) ∙ ap (digit (suc (count_trailing_zeros d (x / 2)))) (low_even x p e)
    ∙ double_suc (count_trailing_zeros d (x / 2)) (bit_and (x / 2) (x / 2 - 1)) ∙ ih (omega arith) (omega arith))
    (λ e. ap (λ (k : ℕ). digit k (bit_and x (x - 1))) (trailing_odd d x e) ∙ ap (digit 0) (low_odd x e) ∙ double_zero (x / 2))

low_kept : (d x k : ℕ) → 0 < x → x < 2 ^ d → k ≢ count_trailing_zeros d x → digit k (bit_and x (x - 1)) ≡ digit k x
low_kept zero x k p h n = absurd (omega arith)
low_kept (suc d) x zero p h n =
    parity x
    (λ e. ap (digit 0) (low_even x p e) ∙ double_zero (bit_and (x / 2) (x / 2 - 1)) ∙ sym (digit_zero x ∙ e))
    (λ e. absurd (n (sym (trailing_odd d x e))))
low_kept (suc d) x (suc k) p h n =
    let ih = low_kept d (x / 2) k in
    parity x
    (λ e. ap (digit (suc k)) (low_even x p e) ∙ double_suc k (bit_and (x / 2) (x / 2 - 1))
    ∙ ih (omega arith) (omega arith) (λ q. n (ap suc q ∙ sym (trailing_even d x e))) ∙ sym (digit_suc k x))
    (λ e. ap (digit (suc k)) (low_odd x e) ∙ double_suc k (x / 2) ∙ sym (digit_suc k x))

module _ (x : ℕ) (p : 0 < x) (h : x < 2 ^ 64) where
  pub lowest_is : Lowest x (count_trailing_zeros 64 x)
  lowest_is = record {
    within = low_within 64 x p h;
    set = ap (λ (y : ℕ). eqb y 1) (low_set 64 x p h);
    least = λ k l. ap (λ (y : ℕ). eqb y 1) (low_least 64 x k l);
  }

  -- what is left are the other bits
  pub rest_is : (k : ℕ) → bit_of (bit_and x (x - 1)) k ≡ cond (eqb k (count_trailing_zeros 64 x)) false (bit_of x k)
  rest_is k =
      same k (count_trailing_zeros 64 x)
      (λ e. ap (bit_of (bit_and x (x - 1))) e ∙ ap (λ (y : ℕ). eqb y 1) (low_gone 64 x p h) ∙ sym (ap (λ (t : Bool). cond t false (bit_of x k)) (eq-eqb k (count_trailing_zeros 64 x) e)))
      (λ e. ap (λ (y : ℕ). eqb y 1) (low_kept 64 x k p h e) ∙ sym (ap (λ (t : Bool). cond t false (bit_of x k)) (ne_eqb k (count_trailing_zeros 64 x) e)))

  pub rest_less : bit_and x (x - 1) < x
  rest_less = omega (arith, and_le_r x (x - 1))

-- there is one lowest
pub lowest_once : {x r s : ℕ} → Lowest x r → Lowest x s → r ≡ s
lowest_once {x} {r} {s} p q =
    cut r s
    (λ h. cut s r (λ g. omega arith) (λ g. absurd (never (q.least r g) p.set)))
    (λ g. absurd (never (p.least s g) q.set))
  where
    never : {b : Bool} → b ≡ false → b ≡ true → ⊥
    never e f = let z : ◌≡◌ {A = ℕ} 0 1 = cc in omega arith

-- ---- the places of the set bits

places_even : (d i x : ℕ) → x % 2 ≡ 0 → places (suc d) i x ≡ places d (suc i) (x / 2)
unfolding places
places_even d i x e = ap (λ (y : ℕ). cond (eqb y 1) (i ∷ places d (suc i) (x / 2)) (places d (suc i) (x / 2))) (digit_zero x ∙ e)

places_odd : (d i x : ℕ) → x % 2 ≡ 1 → places (suc d) i x ≡ i ∷ places d (suc i) (x / 2)
unfolding places
places_odd d i x e = ap (λ (y : ℕ). cond (eqb y 1) (i ∷ places d (suc i) (x / 2)) (places d (suc i) (x / 2))) (digit_zero x ∙ e)

places_double : (d i y : ℕ) → places (suc d) i (y * 2) ≡ places d (suc i) y
places_double d i y = let e : y * 2 / 2 ≡ y = omega arith in places_even d i (y * 2) (omega arith) ∙ ap (places d (suc i)) e

-- the lowest stands first, and the others follow
pub places_low : (d i x : ℕ) → 0 < x → x < 2 ^ d → places d i x ≡ (i + count_trailing_zeros d x) ∷ places d i (bit_and x (x - 1))
places_low zero i x p h = absurd (omega arith)
places_low (suc d) i x p h =
    let ih = places_low d (suc i) (x / 2) in
    parity x
    (λ e. let t : suc i + count_trailing_zeros d (x / 2) ≡ i + count_trailing_zeros (suc d) x = omega (arith, trailing_even d x e) in
    places_even d i x e ∙ ih (omega arith) (omega arith)
    ∙ ap (λ (q : ℕ). q ∷ places d (suc i) (bit_and (x / 2) (x / 2 - 1))) t
    ∙ ap (λ (l : List ℕ). (i + count_trailing_zeros (suc d) x) ∷ l) (sym (ap (places (suc d) i) (low_even x p e) ∙ places_double d i (bit_and (x / 2) (x / 2 - 1)))))
    (λ e. let t : i ≡ i + count_trailing_zeros (suc d) x = omega (arith, trailing_odd d x e) in
    places_odd d i x e ∙ ap (λ (q : ℕ). q ∷ places d (suc i) (x / 2)) t
    ∙ ap (λ (l : List ℕ). (i + count_trailing_zeros (suc d) x) ∷ l) (sym (ap (places (suc d) i) (low_odd x e) ∙ places_double d i (x / 2))))

pub without_is : (x : ℕ) → 0 < x → x < 2 ^ 64 → Without x (bit_and x (x - 1))
without_is x p h = record {
  less = rest_less x p h;
  bits = λ r l k. rest_is x p h k ∙ ap (λ (q : ℕ). cond (eqb k q) false (bit_of x k)) (lowest_once (lowest_is x p h) l);
  next = λ r l i. places_low 64 i x p h ∙ ap (λ (q : ℕ). (i + q) ∷ places 64 i (bit_and x (x - 1))) (lowest_once (lowest_is x p h) l);
}

pub places_none : (d i : ℕ) → places d i 0 ≡ []
unfolding places
places_none zero i = refl
places_none (suc d) i = places_none d (suc i)

pub places_length : (d i x : ℕ) → length (places d i x) ≤ d
unfolding places
places_length zero i x = omega arith
places_length (suc d) i x =
    let ih = places_length d (suc i) (x / 2) in
    parity x (λ e. omega (arith, ap length (places_even d i x e))) (λ e. omega (arith, ap length (places_odd d i x e)))

-- they are the set bits
bit_suc : (x k : ℕ) → bit_of x (suc k) ≡ bit_of (x / 2) k
bit_suc x k = ap (λ (y : ℕ). eqb y 1) (digit_suc k x)

pub mem_places : (d i x k : ℕ) → k < d → bit_of x k ≡ true → Memᴰ (i + k) (places d i x)
mem_places zero i x k h b = absurd (omega arith)
mem_places (suc d) i x zero h b =
    rw (places_odd d i x (omega (arith, digit_zero x, eqb-true (digit 0 x) 1 b))) (Memᴰ.head (add-zero i))
mem_places (suc d) i x (suc k) h b =
    let m = Memᴰ.cast (add-suc i k ∙ sym (suc-add i k)) (mem_places d (suc i) (x / 2) k (omega arith) (sym (bit_suc x k) ∙ b)) in
    parity x (λ e. rw (places_even d i x e) m) (λ e. rw (places_odd d i x e) (Memᴰ.tail m))

pub mem_of_places : {a : ℕ} (d i x : ℕ) → Memᴰ a (places d i x) → (k : ℕ) × (k < d) × (a ≡ i + k) × (bit_of x k ≡ true)
unfolding places
mem_of_places zero i x m = absurd (Memᴰ.not-nil m)
mem_of_places {a} (suc d) i x m =
    let ih = mem_of_places {a = a} d (suc i) (x / 2) in
    parity x
    (λ e. next (ih (rw (places_even d i x e) at m)))
    (λ e. ⊎_elim (λ q. (0, omega arith, q ∙ sym (add-zero i), ap (λ (y : ℕ). eqb y 1) (digit_zero x ∙ e))) (λ q. next (ih q)) (Memᴰ.cases_cons (rw (places_odd d i x e) at m)))
  where
    next : (k : ℕ) × (k < d) × (a ≡ suc i + k) × (bit_of (x / 2) k ≡ true) → (k : ℕ) × (k < suc d) × (a ≡ i + k) × (bit_of x k ≡ true)
    next r = let l = r.1 in let e = r.2 in (suc r.0, omega arith, omega arith, bit_suc x r.0 ∙ r.3)
