-- Local after local: the rows once the first i locals have been marked, for a caller that marks them in turn.
use Prim.Native.Nat.{ℕ, zero, suc, ◌+◌, ◌-◌, ◌*◌, ◌/◌, ◌%◌, ◌^◌, ◌≤◌, ◌<◌}
use native.Mathlib.Nat.{mul-add, mul_assoc, mul_comm, mul-le-mul_left, mul-le-mul_right}
use native.Mathlib.Omega.{arith}
use mathlib.Core.Path.{◌≡◌, sym, ap, ◌∙◌, subst}
use mathlib.Core.Logic.{◌⊎◌, ⊎_elim}
use mathlib.Core.Bool.{Bool, true, false, ◌&&◌, ◌||◌, or-false, and-true}
use mathlib.Core.List.{List}
use lib.Dec.{eqb}
use Rattle.words.specs.Inner.{Region}
use Rattle.words.proofs.Points.{same}
use Rattle.words.proofs.RegionLaws.{row_before}
use Rattle.bits.specs.Bits.{digit, bit, bit_of}
use Rattle.bits.proofs.DigitLaws.{digit_zero, digit_suc}
use Rattle.graph.specs.Inner.Work.{Within}
use Rattle.area_rows.specs.Inner.{marked, Marked}

-- of the first i locals the bits are f's, of the others v
pub record Columns (n base words : ℕ) (v : Bool) (f : ℕ → ℕ → Bool) (i : ℕ) (w : List ℕ) : Type 0 where
  pub first : (l k : ℕ) → l < i → l < words * 64 → k < n → bit w (base + k * words) l ≡ f l k
  pub rest : (l k : ℕ) → i ≤ l → l < words * 64 → k < n → bit w (base + k * words) l ≡ v

-- rows filled with one word
pub columns_start : {w₀ w : List ℕ} {x n base words : ℕ} {v : Bool} (f : ℕ → ℕ → Bool) → Region w₀ w base (n * words) (λ _. x) → ((b : ℕ) → b < 64 → bit_of x b ≡ v) → Columns n base words v f 0 w
columns_start {x = x} {n} {base} {words} f R all = record {
  first = λ l k h m q. absurd (omega arith);
  rest = λ l k h m q.
      let r = row_before k n words q in
      let z : base + k * words + l / 64 ≡ base + (k * words + l / 64) = omega arith in
      ap (λ (y : ℕ). bit_of y (l % 64)) (R.inside (base + k * words + l / 64) (k * words + l / 64) z (omega arith)) ∙ all (l % 64) (omega arith);
}

-- a word of ones
ones_digit : (d k : ℕ) → k < d → digit k (2 ^ d - 1) ≡ 1
ones_digit zero k h = absurd (omega arith)
ones_digit (suc d) zero h = digit_zero (2 ^ suc d - 1) ∙ omega (arith, some d)
  where
    some : (d : ℕ) → 0 < 2 ^ d
    some zero = omega arith
    some (suc d) = omega (arith, some d)
ones_digit (suc d) (suc k) h =
    let e : (2 ^ suc d - 1) / 2 ≡ 2 ^ d - 1 = omega arith in
    digit_suc k (2 ^ suc d - 1) ∙ ap (digit k) e ∙ ones_digit d k (omega arith)

pub ones_bit : (b : ℕ) → b < 64 → bit_of 18446744073709551615 b ≡ true
ones_bit b h = ap (λ (y : ℕ). eqb y 1) (ones_digit 64 b h)

module _ {n base words : ℕ} {f : ℕ → ℕ → Bool} {i : ℕ} {w : List ℕ} where
  -- local i's bits become g's
  next : {v : Bool} {w' : List ℕ} (g : ℕ → Bool) → Columns n base words v f i w → Marked (record { n = n; base = base; words = words; bit = i }) g w w' → ((k : ℕ) → k < n → g k ≡ f i k) → Columns n base words v f (i + 1) w'
  next {v} {w'} g C M e = record {
    first = λ l k h m q. same l i
        (λ z. subst (λ (x : ℕ). bit w' (base + k * words) x ≡ f x k) (sym z) (M.column k q ∙ e k q))
        (λ d. M.others k l q m d ∙ C.first l k (omega arith) m q);
    rest = λ l k h m q. M.others k l q m (λ z. absurd (omega arith)) ∙ C.rest l k (omega arith) m q;
  }

  -- set where t holds, in rows that begin empty; unset where it does not, in rows that begin full
  pub columns_set : {w' : List ℕ} (t : ℕ → Bool) → i < words * 64 → Columns n base words false f i w
      → Marked (record { n = n; base = base; words = words; bit = i }) (λ k. t k || marked (record { n = n; base = base; words = words; bit = i }) w k) w w'
      → ((k : ℕ) → k < n → t k ≡ f i k) → Columns n base words false f (i + 1) w'
  columns_set t h C M e = next (λ k. t k || marked (record { n = n; base = base; words = words; bit = i }) w k) C M
      (λ k q. ap (λ (x : Bool). t k || x) (C.rest i k (omega arith) h q) ∙ or-false (t k) ∙ e k q)

  pub columns_unset : {w' : List ℕ} (t : ℕ → Bool) → i < words * 64 → Columns n base words true f i w
      → Marked (record { n = n; base = base; words = words; bit = i }) (λ k. t k && marked (record { n = n; base = base; words = words; bit = i }) w k) w w'
      → ((k : ℕ) → k < n → t k ≡ f i k) → Columns n base words true f (i + 1) w'
  columns_unset t h C M e = next (λ k. t k && marked (record { n = n; base = base; words = words; bit = i }) w k) C M
      (λ k q. ap (λ (x : Bool). t k && x) (C.rest i k (omega arith) h q) ∙ and-true (t k) ∙ e k q)

  -- a local that is not marked
  pub columns_skip : {v : Bool} → i < words * 64 → Columns n base words v f i w → ((k : ℕ) → k < n → f i k ≡ v) → Columns n base words v f (i + 1) w
  columns_skip h C e = record {
    first = λ l k g m q. same l i
        (λ z. subst (λ (x : ℕ). bit w (base + k * words) x ≡ f x k) (sym z) (C.rest i k (omega arith) h q ∙ sym (e k q)))
        (λ d. C.first l k (omega arith) m q);
    rest = λ l k g m q. C.rest l k (omega arith) m q;
  }

  -- changes apart from the rows
  pub columns_kept : {v : Bool} {lo hi : ℕ} {w' : List ℕ} → Columns n base words v f i w → Within lo hi w w' → (base + n * words ≤ lo) ⊎ (hi ≤ base) → Columns n base words v f i w'
  columns_kept {w' = w'} C K a = record { first = λ l k h m q. kept l k m q ∙ C.first l k h m q; rest = λ l k h m q. kept l k m q ∙ C.rest l k h m q }
    where
      kept : (l k : ℕ) → l < words * 64 → k < n → bit w' (base + k * words) l ≡ bit w (base + k * words) l
      kept l k m q =
          let r = row_before k n words q in
          ap (λ (y : ℕ). bit_of y (l % 64)) (⊎_elim (λ x. K.below (base + k * words + l / 64) (omega arith)) (λ x. K.past (base + k * words + l / 64) (omega arith)) a)

-- the locals' rows fit: of L locals and B places, with ⌈L / 64⌉ words a place
pub rows_room : (L B : ℕ) → L * (B / 64 + 1) ≤ B * ((L + 63) / 64) + L
rows_room L B = go ((L + 63) / 64) (B / 64) (omega arith) (omega arith)
  where
    go : (c q : ℕ) → L ≤ c * 64 → 64 * q ≤ B → L * (q + 1) ≤ B * c + L
    go c q a b = omega (arith, mul-add L q 1, mul-le-mul_right q a, mul_assoc c 64 q, mul-le-mul_left c b, mul_comm c B)
