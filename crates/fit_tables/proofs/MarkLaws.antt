-- Rows of sample points: a bit that two rows have in common is a point in common, hence a clash.
use Prim.Native.Nat.{ℕ, ◌+◌, ◌*◌, ◌^◌, ◌≤◌, ◌<◌}
use native.Mathlib.Omega.{arith}
use mathlib.Core.Path.{◌≡◌, ap, sym, ◌∙◌}
use mathlib.Core.Logic.{◌≢◌, ◌⊎◌, inl, inr}
use mathlib.Core.Bool.{true, false, not, false≢true}
use mathlib.Core.List.{List}
use lib.Bits.{bit_and, and_le_r}
use lib.Count.{count_trailing_zeros}
use lib.Dec.{eqb}
use lib.ListN.{get_or}
use borrow.Author.Tests.{eq-eqb}
use Rattle.words.proofs.RegionLaws.{row_before}
use Rattle.words.proofs.Points.{cut, same as same_or}
use Rattle.words.proofs.Bools.{and_both}
use Rattle.bits.specs.Bits.{bit_of}
use Rattle.bits.proofs.DigitLaws.{bit_and_lem, bit_zero, lowest_is}
use Rattle.ranges.specs.declared.Range.{Range}
use Rattle.fit_tables.specs.Inner.{opens, Sure}
use Rattle.fit_tables.specs.declared.Tables.{Tables}
use Rattle.fit_tables.specs.declared.Sample.{Sample}

-- ---- one word

-- words with something in common have a bit in common
pub shared : (x y : ℕ) → y < 2 ^ 64 → 0 < bit_and x y → (t : ℕ) × (t < 64) × (bit_of x t ≡ true) × (bit_of y t ≡ true)
shared x y h p =
    let l = lowest_is (bit_and x y) p (omega (arith, and_le_r x y)) in
    let b = sym (bit_and_lem x y (count_trailing_zeros 64 (bit_and x y))) ∙ l.set in
    (count_trailing_zeros 64 (bit_and x y), l.within, (and_both (bit_of x (count_trailing_zeros 64 (bit_and x y))) (bit_of y (count_trailing_zeros 64 (bit_and x y))) b).0, (and_both (bit_of x (count_trailing_zeros 64 (bit_and x y))) (bit_of y (count_trailing_zeros 64 (bit_and x y))) b).1)

pub nonzero : (y : ℕ) → not (eqb y 0) ≡ true → 0 < y
nonzero y h = same_or y 0 (λ e. absurd (false≢true (ap not (sym (eq-eqb y 0 e)) ∙ h))) (λ d. omega arith)

-- a word with a set bit is not 0
pub some_bit : (x t : ℕ) → bit_of x t ≡ true → 0 < x
some_bit x t e = same_or x 0 (λ z. absurd (false≢true (sym (bit_zero t) ∙ ap (λ (y : ℕ). bit_of y t) (sym z) ∙ e))) (λ d. omega arith)

pub sure_less : {w : List ℕ} {t : Tables} {s : Sample} {cells : ℕ} {a : List Range} → Sure w t s cells a → {most : ℕ} → most ≤ cells → Sure w t s most a
sure_less S h = record { inside = λ c l. S.inside c (omega arith); rules = λ c b l. S.rules c b (omega arith) }

-- ---- rows

pub rows_apart : (rows width c r : ℕ) → c ≢ r → (rows + c * width + width ≤ rows + r * width) ⊎ (rows + r * width + width ≤ rows + c * width)
rows_apart rows width c r d =
    cut c r (λ h. inl (omega (arith, row_before c r width (omega arith)))) (λ h. inr (omega (arith, row_before r c width h)))

pub row_inside : (rows width c n l : ℕ) → c < n → rows + n * width ≤ l → rows + c * width + width ≤ l
row_inside rows width c n l h k = omega (arith, row_before c n width h)

pub ruled : {w : List ℕ} {t : Tables} {s : Sample} {most : ℕ} {a : List Range} → Sure w t s most a → (c : ℕ) → c < most → s.word < 2 ^ 64
    → 0 < bit_and (get_or w (s.base + c * s.width) 0) s.word → opens w t a c ≡ false
ruled {w} {t} {s} S c h l p =
    let b = shared (get_or w (s.base + c * s.width) 0) s.word l p in
    S.rules c b.0 h b.1 b.3 b.2
