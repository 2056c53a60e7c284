-- A word below 2 ^ d is determined by its d bits, so rows of words are by theirs.
use mathlib.Core.Path.{◌≡◌, refl, sym, ap, ◌∙◌}
use mathlib.Core.Bool.{Bool, true, false, cond}
use mathlib.Core.List.{List, ◌++◌}
use Prim.Native.Nat.{ℕ, zero, suc, ◌+◌, ◌*◌, ◌/◌, ◌%◌, ◌^◌, ◌≤◌, ◌<◌}
use native.Mathlib.Nat.{suc-mul, mul_comm}
use native.Mathlib.Omega.{arith}
use lib.Dec.{eqb}
use lib.ListN.{length, get_or, take, drop, take-append-drop, length-drop}
use lib.Seq.{ext_get_or, get_or-drop, take-add, drop-drop}
use Rattle.words.specs.Rows.{tabulate, flat}
use Rattle.words.specs.Inner.{part}
use Rattle.words.proofs.RowLaws.{length_tabulate, get_d_tabulate}
use Rattle.words.proofs.RegionLaws.{part_is, length_part}
use Rattle.words.proofs.FlatLaws.{flat_at}
use Rattle.bits.specs.Bits.{bit_of, bit}
use Rattle.bits.specs.Words.{word_of, row_of, rows_of}
use Rattle.bits.proofs.DigitLaws.{digit_zero, digit_suc}
use Rattle.bits.proofs.BitLaws.{bit_at}

low_of : (t : Bool) (m : ℕ) → eqb ((cond t 1 0 + 2 * m) % 2) 1 ≡ t
low_of true m = let e : (1 + 2 * m) % 2 ≡ 1 = omega arith in rw e refl
low_of false m = let e : (0 + 2 * m) % 2 ≡ 0 = omega arith in rw e refl

rest_of : (t : Bool) (m : ℕ) → (cond t 1 0 + 2 * m) / 2 ≡ m
rest_of true m = omega arith
rest_of false m = omega arith

-- the bits of the word that is made of them
pub word_bit : (d : ℕ) (g : ℕ → Bool) (k : ℕ) → k < d → bit_of (word_of d g) k ≡ g k
unfolding word_of
word_bit zero g k h = absurd (omega arith)
word_bit (suc d) g zero h = ap (λ (y : ℕ). eqb y 1) (digit_zero (cond (g 0) 1 0 + 2 * word_of d (λ k. g (suc k)))) ∙ low_of (g 0) (word_of d (λ k. g (suc k)))
word_bit (suc d) g (suc k) h =
    ap (λ (y : ℕ). eqb y 1) (digit_suc k (cond (g 0) 1 0 + 2 * word_of d (λ j. g (suc j))))
    ∙ ap (λ (y : ℕ). bit_of y k) (rest_of (g 0) (word_of d (λ j. g (suc j)))) ∙ word_bit d (λ j. g (suc j)) k (omega arith)

low_by : (x : ℕ) (t : Bool) → eqb (x % 2) 1 ≡ t → x % 2 ≡ cond t 1 0
low_by x t e = go (x % 2) (omega arith) e
  where
    go : (y : ℕ) → y < 2 → eqb y 1 ≡ t → y ≡ cond t 1 0
    go zero h q = ap (λ (s : Bool). cond s 1 0) q
    go (suc zero) h q = ap (λ (s : Bool). cond s 1 0) q
    go (suc (suc y)) h q = absurd (omega arith)

-- a word is the one that is made of its bits
pub word_by_bits : (d x : ℕ) (g : ℕ → Bool) → x < 2 ^ d → ((k : ℕ) → k < d → bit_of x k ≡ g k) → x ≡ word_of d g
unfolding word_of
word_by_bits zero x g h f = omega arith
word_by_bits (suc d) x g h f =
    let low : x % 2 ≡ cond (g 0) 1 0 = low_by x (g 0) (ap (λ (y : ℕ). eqb y 1) (sym (digit_zero x)) ∙ f 0 (omega arith)) in
    let rest : x / 2 ≡ word_of d (λ k. g (suc k)) = word_by_bits d (x / 2) (λ k. g (suc k)) (omega arith) (λ k l. ap (λ (y : ℕ). eqb y 1) (sym (digit_suc k x)) ∙ f (suc k) (omega arith)) in
    omega arith

-- bit b of row v of rows made of their bits
pub rows_bit : (n words : ℕ) (g : ℕ → ℕ → Bool) (v b : ℕ) → v < n → b < words * 64 → bit (rows_of n words g) (v * words) b ≡ g v b
rows_bit n words g v b h l =
    let i : v * words + b / 64 ≡ words * v + b / 64 = ap (λ (y : ℕ). y + b / 64) (mul_comm v words) in
    let e : b / 64 * 64 + b % 64 ≡ b = omega arith in
    ap (λ (y : ℕ). bit_of y (b % 64)) (ap (λ (y : ℕ). get_or (rows_of n words g) y 0) i ∙ flat_at words n (λ u. row_of words (g u)) (λ u q. length_tabulate words _) v (b / 64) h (omega arith)
    ∙ get_d_tabulate words (λ j. word_of 64 (λ k. g v (j * 64 + k))) (b / 64) 0 (omega arith))
    ∙ word_bit 64 (λ k. g v (b / 64 * 64 + k)) (b % 64) (omega arith) ∙ ap (g v) e

module _ (w : List ℕ) (words : ℕ) (fits : (i : ℕ) → get_or w i 0 < 2 ^ 64) where
  row_at : (at : ℕ) (g : ℕ → Bool) → at + words ≤ length w → ((b : ℕ) → b < words * 64 → bit w at b ≡ g b) → part at words w ≡ row_of words g
  row_at at g h f =
      part_is at words w (row_of words g) h (length_tabulate words _)
      (λ i l. word_by_bits 64 (get_or w (at + i) 0) (λ k. g (i * 64 + k)) (fits (at + i)) (λ k q. sym (bit_at w at i k q) ∙ f (i * 64 + k) (omega arith))
      ∙ sym (get_d_tabulate words (λ j. word_of 64 (λ k. g (j * 64 + k))) i 0 l))

  rows_at : (n at : ℕ) (g : ℕ → ℕ → Bool) → at + n * words ≤ length w → ((v b : ℕ) → v < n → b < words * 64 → bit w (at + v * words) b ≡ g v b) → part at (n * words) w ≡ rows_of n words g
  unfolding flat tabulate
  rows_at zero at g h f = let e : zero * words ≡ 0 = omega arith in rw e refl
  rows_at (suc n) at g h f =
      let e : suc n * words ≡ words + n * words = omega (arith, suc-mul n words) in
      ap (λ (m : ℕ). part at m w) e ∙ take-add words (n * words) (drop at w)
      ∙ ap (λ (l : List ℕ). take words (drop at w) ++ take (n * words) l) (drop-drop words at w)
      ∙ ap (λ (l : List ℕ). l ++ part (at + words) (n * words) w) (row_at at (g 0) (omega arith) (λ b l. rw (first-row at) at (f 0 b (omega arith) l)))
      ∙ ap (λ (l : List ℕ). row_of words (g 0) ++ l) (rows_at n (at + words) (λ v. g (suc v)) (omega arith) (λ v b q l. rw (next_row at v) at (f (suc v) b (omega arith) l)))
    where
      first-row : (at : ℕ) → at + 0 * words ≡ at
      first-row at = omega arith

      next_row : (at v : ℕ) → at + suc v * words ≡ at + words + v * words
      next_row at v = omega (arith, suc-mul v words)

-- a list whose first n rows have given bits, and the numbers of another list past them
pub rows_by_bits : (n words : ℕ) (g : ℕ → ℕ → Bool) (w₀ w : List ℕ) → length w ≡ length w₀ → n * words ≤ length w₀ → ((i : ℕ) → get_or w i 0 < 2 ^ 64)
    → ((v b : ℕ) → v < n → b < words * 64 → bit w (v * words) b ≡ g v b) → ((i : ℕ) → n * words ≤ i → get_or w i 0 ≡ get_or w₀ i 0)
    → w ≡ rows_of n words g ++ drop (length (rows_of n words g)) w₀
rows_by_bits n words g w₀ w len fit fits bits past =
    sym (take-append-drop (n * words) w) ∙ ap (λ (l : List ℕ). l ++ drop (n * words) w) front
    ∙ ap (λ (l : List ℕ). rows_of n words g ++ l) behind ∙ ap (λ (m : ℕ). rows_of n words g ++ drop m w₀) (sym wide)
  where
    front : part 0 (n * words) w ≡ rows_of n words g
    front = rows_at w words fits n 0 g (omega arith) (λ v b h l. rw (from_none v) (bits v b h l))
      where
        from_none : (v : ℕ) → 0 + v * words ≡ v * words
        from_none v = omega arith

    behind : drop (n * words) w ≡ drop (n * words) w₀
    behind = ext_get_or 0 (drop (n * words) w) (drop (n * words) w₀) (length-drop (n * words) w ∙ omega (arith, length-drop (n * words) w₀))
        (λ i h. get_or-drop (n * words) w i 0 ∙ past (n * words + i) (omega arith) ∙ sym (get_or-drop (n * words) w₀ i 0))

    wide : length (rows_of n words g) ≡ n * words
    wide = sym (ap length front) ∙ length_part 0 (n * words) w (omega arith)
