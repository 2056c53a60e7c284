-- Laws of the rows, of names in bars and of colours.
use Prim.Native.Nat.{ℕ, ◌+◌, ◌*◌, ◌/◌, ◌%◌, ◌^◌, ◌≤◌, ◌<◌}
use native.Mathlib.Omega.{arith}
use native.Mathlib.Nat.{le-div_iff_mul-le, le_refl, mul_comm, zero-mul, pow-succ'}
use native.Mathlib.Numerals.{add-one}
use mathlib.Core.Path.{◌≡◌, refl, sym, ap, ◌∙◌}
use Rattle.words.proofs.Points.{same}
use Rattle.drawing.specs.Rows.{top_of, row_height, height_of, hue_of}
use Rattle.drawing.specs.Inner.{Fits, Digits}

-- rows do not overlap, and stand inside the picture
pub rows_apart : (c d : ℕ) → c < d → top_of c + row_height ≤ top_of d
rows_apart c d h = omega arith

pub row_inside : (c n : ℕ) → c < n → top_of c + row_height ≤ height_of n
row_inside c n h = omega arith

-- two of 360 items have different hues: 113 turns of 137 degrees are 43 whole turns and one degree
less_whole : (i s : ℕ) → i < 360 → (i + 360 * s) % 360 ≡ i
less_whole i s h = omega arith

pub hues_apart : (i j : ℕ) → i < 360 → j < 360 → hue_of i ≡ hue_of j → i ≡ j
hues_apart i j h k e =
    let same : i + 360 * (113 * ((137 * j) / 360) + 43 * i) ≡ j + 360 * (113 * ((137 * i) / 360) + 43 * j) = omega arith in
    sym (less_whole i (113 * ((137 * j) / 360) + 43 * i) h) ∙ ap (λ (n : ℕ). n % 360) same ∙ less_whole j (113 * ((137 * i) / 360) + 43 * j) k

-- ---- the digits of a number

pub record Counted (n top k : ℕ) : Type 0 where
  pub small : n < 4294967296
  pub positive : 0 < top
  pub power : top ≡ 10 ^ k
  pub fewest : (s : ℕ) → 0 < s → n < 10 ^ s → k ≤ s

pub counted_start : (n : ℕ) → n < 4294967296 → Counted n 10 1
counted_start n h = record { small = h; positive = omega arith; power = refl; fewest = λ s k l. k }

module _ {n top k : ℕ} (d : Counted n top k) where
  pub counted_few : k ≤ 10
  counted_few = d.fewest 10 (omega arith) (let h = d.small in omega arith)

  pub counted_more : top ≤ n → Counted n (10 * top) (k + 1)
  counted_more h = record {
    small = d.small;
    positive = let p = d.positive in omega arith;
    power = ap (λ (x : ℕ). 10 * x) d.power ∙ sym (ap (λ (x : ℕ). 10 ^ x) (add-one k) ∙ pow-succ' 10 k);
    fewest = λ s p l. same k s
        (λ e. let f : n < top = rw (d.power, e) l in absurd (omega arith))
        (λ e. let g = d.fewest s p l in omega arith);
  }

  pub counted_done : n < top → Digits n k
  counted_done h = record { enough = rw d.power at h; fewest = d.fewest; at_most = counted_few }

-- ---- the largest type that fits

module _ (width characters most : ℕ) where
  pub fits_none : characters ≡ 0 → Fits width characters most most
  fits_none e = record { at_most = le_refl most; fits = rw (e, zero-mul) (omega arith); largest = λ s k l. k }

  module _ (pos : 0 < 62 * characters) where
    pub fits_most : most ≤ (100 * width) / (62 * characters) → Fits width characters most most
    fits_most h = record { at_most = le_refl most; fits = rw (mul_comm (62 * characters) most) ((le-div_iff_mul-le pos).0 h); largest = λ s k l. k }

    pub fits_part : (100 * width) / (62 * characters) < most → Fits width characters most ((100 * width) / (62 * characters))
    fits_part h = record {
      at_most = omega arith;
      fits = rw (mul_comm (62 * characters) ((100 * width) / (62 * characters))) ((le-div_iff_mul-le pos).0 (le_refl ((100 * width) / (62 * characters))));
      largest = λ s k l. (le-div_iff_mul-le pos).1 (rw (mul_comm s (62 * characters)) l);
    }
