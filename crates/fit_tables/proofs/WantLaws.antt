-- The words that are loaded, and an item's row.
use Prim.Native.Nat.{ℕ, ◌+◌, ◌*◌, ◌^◌}
use native.Mathlib.Omega.{arith}
use native.Mathlib.Nat.{add-zero}
use mathlib.Core.Path.{◌≡◌, refl, ap, sym, ◌∙◌}
use mathlib.Core.Bool.{Bool, true, false, cond}
use mathlib.Core.List.{List, [], ◌∷◌}
use lib.ListN.{length, get_or}
use lib.Dec.{eqb}
use borrow.Author.Tests.{eq-eqb, ne_eqb}
use Rattle.words.specs.Inner.{Region, want_align}
use Rattle.words.specs.Widths.{want_width, want_present, want_first, want_ranges}
use Rattle.fit_tables.specs.WantTables.{item_row}
use Rattle.fit_tables.specs.Inner.{item_word, area_word_at, item_word_at, want_word_at, Loaded}

-- ---- words

pub word_none : (present first count : ℕ) → present ≡ 0 → item_word present first count ≡ 0
word_none present first count e = ap (λ (t : Bool). cond t 0 (first * 2 ^ 32 + count + 1)) (eq-eqb present 0 e)

pub word_some : (present first count : ℕ) → (present ≡ 0 → ⊥) → item_word present first count ≡ first * 2 ^ 32 + count + 1
word_some present first count d = ap (λ (t : Bool). cond t 0 (first * 2 ^ 32 + count + 1)) (ne_eqb present 0 d)

pub area_word : (s : List ℕ) (i : ℕ) → get_or s (2 * i) 0 * 2 ^ 32 + get_or s (2 * i + 1) 0 ≡ area_word_at s i
area_word s i = ap (λ (k : ℕ). get_or s k 0 * 2 ^ 32 + get_or s (2 * i + 1) 0) (sym (add-zero (2 * i)))

pub want_word_lem : (s : List ℕ) (i : ℕ) → get_or s (want_width * i) 0 * 2 ^ 32 + want_align s i ≡ want_word_at s i
want_word_lem s i = ap (λ (k : ℕ). get_or s k 0 * 2 ^ 32 + want_align s i) (sym (add-zero (5 * i)))

-- ---- the three passes

pub loaded : {w₀ w₁ w₂ w₃ wants areas : List ℕ} {n ranges : ℕ} → Region w₀ w₁ 0 ranges (area_word_at areas) → Region w₁ w₂ ranges n (item_word_at wants) → Region w₂ w₃ (ranges + n) n (want_word_at wants)
    → Loaded w₀ w₃ wants areas n ranges
loaded {w₀} {w₁} {w₂} {w₃} {wants} {areas} {n} {ranges} a b c = record {
  len = c.len ∙ b.len ∙ a.len;
  area = λ i h. c.before i (omega arith) ∙ b.before i h ∙ a.inside i i (omega arith) h;
  item = λ i h. c.before (ranges + i) (omega arith) ∙ b.inside (ranges + i) i refl h;
  want = λ i h. c.inside (ranges + n + i) i refl h;
  rest = λ x h. c.after x (omega arith) ∙ b.after x (omega arith) ∙ a.after x (omega arith);
}

-- ---- rows

pub item_wide : (c p f k : ℕ) → length (item_row c p f k) ≡ 4
item_wide c p f k = go (eqb p 0)
  where
    go : (t : Bool) → length (cond t (c ∷ 0 ∷ 0 ∷ 0 ∷ []) (c ∷ 1 ∷ f ∷ k ∷ [])) ≡ 4
    go true = refl
    go false = refl

pub row_absent : (c p f k : ℕ) → p ≡ 0 → item_row c p f k ≡ c ∷ 0 ∷ 0 ∷ 0 ∷ []
row_absent c p f k e = ap (λ (t : Bool). cond t (c ∷ 0 ∷ 0 ∷ 0 ∷ []) (c ∷ 1 ∷ f ∷ k ∷ [])) (eq-eqb p 0 e)

pub row_present : (c p f k : ℕ) → (p ≡ 0 → ⊥) → item_row c p f k ≡ c ∷ 1 ∷ f ∷ k ∷ []
row_present c p f k d = ap (λ (t : Bool). cond t (c ∷ 0 ∷ 0 ∷ 0 ∷ []) (c ∷ 1 ∷ f ∷ k ∷ [])) (ne_eqb p 0 d)

pub item_row_wide : (w wants : List ℕ) (at i : ℕ) → length (item_row (get_or w (at + i) 0) (want_present wants i) (want_first wants i) (want_ranges wants i)) ≡ 4
item_row_wide w wants at i = item_wide (get_or w (at + i) 0) (want_present wants i) (want_first wants i) (want_ranges wants i)
