-- Reading one field, byte by byte.
use Prim.Native.Nat.{ℕ, zero, suc, ◌+◌, ◌-◌, ◌*◌, ◌≤◌, ◌<◌}
use native.Mathlib.Omega.{arith}
use native.Mathlib.Numerals.{add-one}
use mathlib.Core.Path.{◌≡◌, refl, ap, sym, ◌∙◌}
use mathlib.Core.Bool.{Bool, true, false, cond, ◌&&◌, and-false}
use mathlib.Core.List.{List, [], ◌∷◌}
use lib.ListN.{length, get_or, drop, drop_of_length-le}
use lib.Seq.{drop-cons}
use lib.Dec.{eqb, leb, ltb}
use borrow.Author.Tests.{eq-eqb, ne_eqb, le-leb, lt-leb, lt-ltb, le-ltb}
use Rattle.text_grammar.specs.Numerals.{digits, value_from, limit, dash, no_field, number_from, field_of}

-- ---- digits after a value

value_rises : (v : ℕ) (s : List ℕ) → v ≤ value_from v s
unfolding value_from
value_rises v [] = omega arith
value_rises v (b ∷ s) = omega (arith, value_rises (10 * v + (b - 48)) s)

pub number_end : (v : ℕ) → v < limit → number_from v [] ≡ v
unfolding number_from value_from digits
number_end v h = rw (lt-ltb v limit h)

pub number_over : (v : ℕ) (s : List ℕ) → limit ≤ v → number_from v s ≡ no_field
unfolding number_from
number_over v s h =
    let l : limit ≤ value_from v s = omega (arith, value_rises v s) in rw (le-ltb (value_from v s) limit l, and-false (digits s))

pub number_digit : (v b : ℕ) (s : List ℕ) → 48 ≤ b → b ≤ 57 → number_from v (b ∷ s) ≡ number_from (10 * v + (b - 48)) s
unfolding number_from value_from digits
number_digit v b s h l = rw (le-leb 48 b h, le-leb b 57 l)

pub number_below : (v b : ℕ) (s : List ℕ) → b < 48 → number_from v (b ∷ s) ≡ no_field
unfolding number_from digits
number_below v b s h = rw (lt-leb 48 b h)

pub number_above : (v b : ℕ) (s : List ℕ) → 57 < b → number_from v (b ∷ s) ≡ no_field
unfolding number_from digits
number_above v b s h = go (leb 48 b) (lt-leb b 57 h)
  where
    go : (t : Bool) → leb b 57 ≡ false → cond (((t && leb b 57) && digits s) && ltb (value_from v (b ∷ s)) limit) (value_from v (b ∷ s)) no_field ≡ no_field
    go true e = rw e
    go false e = refl

-- the first i bytes are digits, and their value is v
pub record Reading (s : List ℕ) (v i : ℕ) : Type 0 where
  pub i_le : i ≤ length s
  pub small : v < limit
  pub from : number_from 0 s ≡ number_from v (drop i s)

pub reading_start : (s : List ℕ) → Reading s 0 0
reading_start s = record { i_le = omega arith; small = omega arith; from = refl }

module _ {s : List ℕ} {v i : ℕ} (r : Reading s v i) where
  next : i < length s → number_from 0 s ≡ number_from v (get_or s i 0 ∷ drop (suc i) s)
  next h = r.from ∙ ap (number_from v) (drop-cons s i 0 h)

  pub reading_below : i < length s → get_or s i 0 < 48 → no_field ≡ number_from 0 s
  reading_below h b = sym (next h ∙ number_below v (get_or s i 0) (drop (suc i) s) b)

  pub reading_above : i < length s → 57 < get_or s i 0 → no_field ≡ number_from 0 s
  reading_above h b = sym (next h ∙ number_above v (get_or s i 0) (drop (suc i) s) b)

  pub reading_over : i < length s → 48 ≤ get_or s i 0 → get_or s i 0 ≤ 57 → limit ≤ 10 * v + (get_or s i 0 - 48) → no_field ≡ number_from 0 s
  reading_over h b d l =
      sym (next h ∙ number_digit v (get_or s i 0) (drop (suc i) s) b d ∙ number_over (10 * v + (get_or s i 0 - 48)) (drop (suc i) s) l)

  pub reading_more : i < length s → 48 ≤ get_or s i 0 → get_or s i 0 ≤ 57 → 10 * v + (get_or s i 0 - 48) < limit → Reading s (10 * v + (get_or s i 0 - 48)) (i + 1)
  reading_more h b d l = record {
    i_le = omega arith;
    small = l;
    from = next h ∙ number_digit v (get_or s i 0) (drop (suc i) s) b d ∙ ap (λ (n : ℕ). number_from (10 * v + (get_or s i 0 - 48)) (drop n s)) (sym (add-one i));
  }

  pub reading_end : length s ≤ i → v ≡ number_from 0 s
  reading_end h = sym (r.from ∙ ap (number_from v) (drop_of_length-le s h) ∙ number_end v r.small)

-- ---- the cases of a field

more : (n : ℕ) → (n ≡ 0 → ⊥) → (n ≡ 1 → ⊥) → 1 < n
more zero d e = absurd (d refl)
more (suc zero) d e = absurd (e refl)
more (suc (suc n)) d e = omega arith

pub field_empty : (s : List ℕ) → length s ≡ 0 → no_field ≡ field_of s
unfolding field_of
field_empty [] e = refl
field_empty (x ∷ s) e = absurd (omega arith)

pub field_dash : (s : List ℕ) → length s ≡ 1 → get_or s 0 0 ≡ 45 → dash ≡ field_of s
unfolding field_of
field_dash [] e h = absurd (omega arith)
field_dash (x ∷ []) e h = rw (eq-eqb x 45 h)
field_dash (x ∷ y ∷ s) e h = absurd (omega arith)

pub field_single : (s : List ℕ) → length s ≡ 1 → (get_or s 0 0 ≡ 45 → ⊥) → number_from 0 s ≡ field_of s
unfolding field_of
field_single [] e h = absurd (omega arith)
field_single (x ∷ []) e h = rw (ne_eqb x 45 h, and-false (eqb x 48))
field_single (x ∷ y ∷ s) e h = absurd (omega arith)

module _ (s : List ℕ) (d : length s ≡ 0 → ⊥) (e : length s ≡ 1 → ⊥) where
  pub field_zero : get_or s 0 0 ≡ 48 → no_field ≡ field_of s
  unfolding field_of
  field_zero h = simp (ne_eqb (length s) 1 e, ne_eqb (length s) 0 d, and-false, eq-eqb (get_or s 0 0) 48 h, lt-ltb 1 (length s) (more (length s) d e))

  pub field_long : (get_or s 0 0 ≡ 48 → ⊥) → number_from 0 s ≡ field_of s
  unfolding field_of
  field_long h = simp (ne_eqb (length s) 1 e, ne_eqb (length s) 0 d, and-false, ne_eqb (get_or s 0 0) 48 h)
