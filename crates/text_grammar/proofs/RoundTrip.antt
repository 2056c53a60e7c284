-- A number that is written is read again: the decimal of a number is the field that reads as it.
use Prim.Native.Nat.{ℕ, zero, suc, ◌+◌, ◌-◌, ◌*◌, ◌/◌, ◌%◌, ◌^◌, ◌≤◌, ◌<◌}
use native.Mathlib.Omega.{arith}
use native.Mathlib.Nat.{pow-suc}
use mathlib.Core.Path.{◌≡◌, refl, ap, ◌∙◌}
use mathlib.Core.Bool.{Bool, true, false, cond, ◌&&◌, ◌||◌, and-false}
use mathlib.Core.List.{List, [], ◌∷◌, ◌++◌}
use lib.ListN.{length, get_or, length-append, get_or-append}
use lib.Dec.{eqb, leb, ltb, lit≤}
use borrow.Author.Tests.{ne_eqb, le-leb, lt-ltb, le-ltb}
use Rattle.words.proofs.Points.{cut}
use Rattle.text_grammar.specs.Numerals.{digits_of, decimal, digit, digits, value_from, limit, dash, no_field, number_from, leading_zero, field_of}

value_snoc : (v : ℕ) (s : List ℕ) (d : ℕ) → value_from v (s ++ (d ∷ [])) ≡ 10 * value_from v s + (d - 48)
unfolding value_from
value_snoc v [] d = refl
value_snoc v (b ∷ s) d = value_snoc (10 * v + (b - 48)) s d

digits_snoc : (s : List ℕ) (d : ℕ) → digits s ≡ true → digit d ≡ true → digits (s ++ (d ∷ [])) ≡ true
unfolding digits
digits_snoc [] d e h = ap (λ (t : Bool). t && true) h
digits_snoc (b ∷ s) d e h = go (digit b) e (λ q. digits_snoc s d q h)
  where
    go : (t : Bool) → (t && digits s) ≡ true → (digits s ≡ true → digits (s ++ (d ∷ [])) ≡ true) → (t && digits (s ++ (d ∷ []))) ≡ true
    go true e r = r e
    go false e r = e

digit_is : (m : ℕ) → m < 10 → digit (48 + m) ≡ true
digit_is m h = ap (λ (t : Bool). t && leb (48 + m) 57) (le-leb 48 (48 + m) (omega arith)) ∙ le-leb (48 + m) 57 (omega arith)

-- a number is written with digits alone
digits_of_lem : (most n : ℕ) → digits (digits_of most n) ≡ true
unfolding digits_of digits
digits_of_lem zero n = refl
digits_of_lem (suc most) n =
    cut 10 n (λ l. rw (le-ltb n 10 l) (digits_snoc (digits_of most (n / 10)) (48 + n % 10) (digits_of_lem most (n / 10)) (digit_is (n % 10) (omega arith))))
    (λ l. rw (lt-ltb n 10 l) (ap (λ (t : Bool). t && true) (digit_is n l)))

pub decimal_digits : (n : ℕ) → digits (decimal n) ≡ true
decimal_digits n = digits_of_lem 20 n

-- what the digits of a number are
record Numeral (s : List ℕ) (n : ℕ) : Type 0 where
  all : digits s ≡ true
  value : value_from 0 s ≡ n
  some : 1 ≤ length s
  first : 48 ≤ get_or s 0 0
  lead : 1 ≤ n → 48 < get_or s 0 0
  zero_alone : n ≡ 0 → length s ≡ 1

numeral_one : (n : ℕ) → n < 10 → Numeral ((48 + n) ∷ []) n
unfolding digits value_from
numeral_one n h = record {
  all = ap (λ (t : Bool). t && true) (digit_is n h);
  value = omega arith;
  some = omega arith;
  first = omega arith;
  lead = λ l. omega arith;
  zero_alone = λ e. refl;
}

numeral_more : (s : List ℕ) (n : ℕ) → 10 ≤ n → Numeral s (n / 10) → Numeral (s ++ ((48 + n % 10) ∷ [])) n
numeral_more s n h r =
    let g : get_or (s ++ ((48 + n % 10) ∷ [])) 0 0 ≡ get_or s 0 0 = get_or-append s ((48 + n % 10) ∷ []) 0 0 (let x = r.some in omega arith) in
    record {
      all = digits_snoc s (48 + n % 10) r.all (digit_is (n % 10) (omega arith));
      value = let v = value_snoc 0 s (48 + n % 10) in let w = r.value in omega arith;
      some = let l = length-append s ((48 + n % 10) ∷ []) in omega arith;
      first = let x = r.first in omega arith;
      lead = λ _. (let x = r.lead (omega arith) in omega arith);
      zero_alone = λ e. absurd (omega arith);
    }

numeral : (most n : ℕ) → n < 10 ^ suc most → Numeral (digits_of (suc most) n) n
unfolding digits_of
numeral zero n h = let p : 10 ^ 1 ≡ 10 = refl in let l : n < 10 = omega arith in rw (lt-ltb n 10 l) (numeral_one n l)
numeral (suc most) n h =
    cut 10 n
    (λ l. rw (le-ltb n 10 l) (numeral_more (digits_of (suc most) (n / 10)) n l (numeral most (n / 10) (let p : 10 ^ suc (suc most) ≡ 10 ^ suc most * 10 = pow-suc 10 (suc most) in omega arith))))
    (λ l. rw (lt-ltb n 10 l) (numeral_one n l))

field_numeral : (s : List ℕ) (n : ℕ) → n < limit → Numeral s n → field_of s ≡ n
unfolding field_of number_from
field_numeral s n h r =
    ap (λ (t : Bool). cond t dash (cond (eqb (length s) 0 || leading_zero s) no_field (number_from 0 s))) (ap (λ (t : Bool). t && eqb (length s) 1) (ne_eqb (get_or s 0 0) 45 (λ e. let x = r.first in omega arith)))
    ∙ ap (λ (t : Bool). cond (t || leading_zero s) no_field (number_from 0 s)) (ne_eqb (length s) 0 (λ e. let x = r.some in omega arith))
    ∙ ap (λ (t : Bool). cond t no_field (number_from 0 s)) no_lead
    ∙ ap (λ (t : Bool). cond (t && ltb (value_from 0 s) limit) (value_from 0 s) no_field) r.all
    ∙ ap (λ (t : Bool). cond t (value_from 0 s) no_field) (lt-ltb (value_from 0 s) limit (let v = r.value in omega arith))
    ∙ r.value
  where
    no_lead : leading_zero s ≡ false
    no_lead =
        cut 1 n (λ l. ap (λ (t : Bool). t && ltb 1 (length s)) (ne_eqb (get_or s 0 0) 48 (λ e. let x = r.lead l in omega arith)))
        (λ l. ap (λ (t : Bool). eqb (get_or s 0 0) 48 && t) (le-ltb 1 (length s) (let x = r.zero_alone (omega arith) in omega arith)) ∙ and-false (eqb (get_or s 0 0) 48))

pub field_decimal : (n : ℕ) → n < limit → field_of (decimal n) ≡ n
field_decimal n h = field_numeral (decimal n) n h (numeral 19 n (let p : 4294967296 ≤ 10 ^ 20 = lit≤ tt in omega arith))

-- a number of 64 bits is its digits' value
pub decimal_value : (n : ℕ) → n < 2 ^ 64 → value_from 0 (decimal n) ≡ n
decimal_value n h = (numeral 19 n (let p : 2 ^ 64 ≤ 10 ^ 20 = lit≤ tt in omega arith)).value
