-- Bytes written one after another, and the digits of a number.
use Prim.Native.Nat.{ℕ, zero, suc, ◌+◌, ◌-◌, ◌*◌, ◌/◌, ◌%◌, ◌^◌, ◌≤◌, ◌<◌}
use native.Mathlib.Omega.{arith}
use native.Mathlib.Nat.{add-zero, add-suc, suc-add, pow-suc}
use native.Mathlib.Numerals.{add-one}
use mathlib.Core.Path.{◌≡◌, refl, ap, sym, subst, ◌∙◌}
use mathlib.Core.Bool.{Bool, true, false, cond}
use mathlib.Core.List.{List, [], ◌∷◌, ◌++◌, append_assoc, append-nil}
use lib.ListN.{length, get_or, take, drop, set, length-set, length-append, length-take, drop_of_length-le, length-drop}
use lib.Seq.{sets, length-sets, take-suc, take-length, drop-cons, set_out, drop-set-lt, get_or-set_same, take_all}
use lib.Dec.{ltb, lit≤}
use borrow.Author.Tests.{lt-ltb, le-ltb}
use Rattle.words.specs.Rows.{tabulate, flat}
use Rattle.words.proofs.RowLaws.{tabulate_suc}
use Rattle.text_grammar.specs.Numerals.{digits_of, decimal}
use Rattle.text_plan.specs.Inner.{Puts}
use Rattle.text_plan.specs.Lines.{fields_text, line_text}

-- ---- one after another

sets_append : (p q l : List ℕ) (i : ℕ) → sets l i (p ++ q) ≡ sets (sets l i p) (i + length p) q
sets_append [] q l i = ap (λ (n : ℕ). sets l n q) (sym (add-zero i))
sets_append (a ∷ p) q l i = sets_append p q (set l i a) (suc i) ∙ ap (λ (n : ℕ). sets (sets (set l i a) (suc i) p) n q) (suc-add i (length p) ∙ sym (add-suc i (length p)))

pub puts_none : (out : List ℕ) (at : ℕ) → Puts [] out at out at
puts_none out at = record { place = sym (add-zero at); written = refl }

pub puts_then : {p q out out₁ out₂ : List ℕ} {at n₁ n₂ : ℕ} → Puts p out at out₁ n₁ → Puts q out₁ n₁ out₂ n₂ → Puts (p ++ q) out at out₂ n₂
puts_then {p} {q} {out} {out₁} {out₂} {at} {n₁} {n₂} a b = record {
  place = let e = length-append p q in let f = a.place in let g = b.place in omega arith;
  written = b.written ∙ ap (λ (l : List ℕ). sets l n₁ q) a.written ∙ ap (λ (n : ℕ). sets (sets out at p) n q) a.place ∙ sym (sets_append p q out at);
}

pub puts_as : {p q out out' : List ℕ} {at n : ℕ} → p ≡ q → Puts p out at out' n → Puts q out at out' n
puts_as {p} {q} {out} {out'} {at} {n} e a = subst (λ (x : List ℕ). Puts x out at out' n) e a

pub puts_length : {p out out' : List ℕ} {at n : ℕ} → Puts p out at out' n → length out' ≡ length out
puts_length {p} {out} {out'} {at} {n} a = ap length a.written ∙ length-sets out at p

-- a byte more, where there is room for it and where there is not
module _ (s : List ℕ) (at i : ℕ) (h : i < length s) {out out' : List ℕ} (a : Puts (take i s) out at out' (at + i)) where
  one : Puts (get_or s i 0 ∷ []) out' (at + i) (set out' (at + i) (get_or s i 0)) (at + i + 1)
  one = record { place = refl; written = refl }

  next_bytes : take i s ++ (get_or s i 0 ∷ []) ≡ take (i + 1) s
  next_bytes = sym (ap (λ (n : ℕ). take n s) (add-one i) ∙ take-suc s i 0 h)

  pub byte_in : Puts (take (i + 1) s) out at (set out' (at + i) (get_or s i 0)) (at + (i + 1))
  byte_in = subst (λ (n : ℕ). Puts (take (i + 1) s) out at (set out' (at + i) (get_or s i 0)) n) (omega arith) (puts_as next_bytes (puts_then a one))

  pub byte_out : length out' ≤ at + i → Puts (take (i + 1) s) out at out' (at + (i + 1))
  byte_out l = subst (λ (x : List ℕ). Puts (take (i + 1) s) out at x (at + (i + 1))) (set_out out' (at + i) (get_or s i 0) l) byte_in

pub bytes_all : (s : List ℕ) (at i : ℕ) {out out' : List ℕ} → i ≡ length s → Puts (take i s) out at out' (at + i) → Puts s out at out' (at + length s)
bytes_all s at i e a = rw (← e) (puts_as (ap (λ (n : ℕ). take n s) e ∙ take-length s) a)

-- rows one after another
flat_snoc : (xs : List (List ℕ)) (x : List ℕ) → flat (xs ++ (x ∷ [])) ≡ flat xs ++ x
unfolding flat
flat_snoc [] x = append-nil x
flat_snoc (y ∷ xs) x = ap (λ (l : List ℕ). y ++ l) (flat_snoc xs x) ∙ sym (append_assoc y (flat xs) x)

no_rows : (row : ℕ → List ℕ) → flat (tabulate 0 row) ≡ []
unfolding flat tabulate
no_rows row = refl

pub rows_none : (row : ℕ → List ℕ) (out : List ℕ) (at : ℕ) → Puts (flat (tabulate 0 row)) out at out at
rows_none row out at = puts_as (sym (no_rows row)) (puts_none out at)

pub rows_more : (row : ℕ → List ℕ) (i : ℕ) {out out₁ out₂ : List ℕ} {at n₁ n₂ : ℕ} → Puts (flat (tabulate i row)) out at out₁ n₁ → Puts (row i) out₁ n₁ out₂ n₂
    → Puts (flat (tabulate (i + 1) row)) out at out₂ n₂
rows_more row i a b = puts_as (sym (ap (λ (n : ℕ). flat (tabulate n row)) (add-one i) ∙ ap flat (tabulate_suc i row) ∙ flat_snoc (tabulate i row) (row i))) (puts_then a b)

-- ---- fields

fields_snoc : (ns : List ℕ) (n : ℕ) → fields_text (ns ++ (n ∷ [])) ≡ fields_text ns ++ (44 ∷ decimal n)
unfolding fields_text
fields_snoc [] n = append-nil (44 ∷ decimal n)
fields_snoc (m ∷ ns) n = ap (λ (l : List ℕ). (44 ∷ decimal m) ++ l) (fields_snoc ns n) ∙ sym (append_assoc (44 ∷ decimal m) (fields_text ns) (44 ∷ decimal n))

digits_length : (i m : ℕ) → length (digits_of i m) ≤ i
unfolding digits_of
digits_length zero m = omega arith
digits_length (suc i) m = go (ltb m 10) (digits_length i (m / 10))
  where
    go : (t : Bool) → length (digits_of i (m / 10)) ≤ i → length (cond t ((48 + m) ∷ []) (digits_of i (m / 10) ++ ((48 + m % 10) ∷ []))) ≤ suc i
    go true h = omega arith
    go false h = let e = length-append (digits_of i (m / 10)) ((48 + m % 10) ∷ []) in omega arith

pub decimal_length : (n : ℕ) → length (decimal n) ≤ 20
decimal_length n = digits_length 20 n

pub fields_length : (ns : List ℕ) → length (fields_text ns) ≤ 21 * length ns
unfolding fields_text
fields_length [] = omega arith
fields_length (n ∷ ns) = let e = length-append (44 ∷ decimal n) (fields_text ns) in let d = decimal_length n in let f = fields_length ns in omega arith

pub fields_start : (ns out : List ℕ) (at : ℕ) → Puts (fields_text (take 0 ns)) out at out at
unfolding fields_text
fields_start ns out at = puts_none out at

module _ (ns : List ℕ) (i : ℕ) {out out₁ : List ℕ} {at n₁ : ℕ} (a : Puts (fields_text (take i ns)) out at out₁ n₁) where
  pub fields_more : i < length ns → {out₂ : List ℕ} {n₂ : ℕ} → Puts (44 ∷ decimal (get_or ns i 0)) out₁ n₁ out₂ n₂ → Puts (fields_text (take (i + 1) ns)) out at out₂ n₂
  fields_more h b = puts_as (sym (ap (λ (n : ℕ). fields_text (take n ns)) (add-one i) ∙ ap fields_text (take-suc ns i 0 h) ∙ fields_snoc (take i ns) (get_or ns i 0))) (puts_then a b)

  pub fields_near : length ns ≤ 4 → n₁ ≤ at + 84
  fields_near h = let p = a.place in let l = fields_length (take i ns) in let m = length-take i ns in omega arith

  -- the letter before the fields, and the newline behind them
  pub line_put : i ≡ length ns → {letter : ℕ} {out₀ out₂ : List ℕ} {at₀ n₂ : ℕ} → Puts (letter ∷ []) out₀ at₀ out at → Puts (10 ∷ []) out₁ n₁ out₂ n₂ → Puts (line_text letter ns) out₀ at₀ out₂ n₂
  line_put e {letter} f l = puts_then (puts_as (ap (λ (x : List ℕ). letter ∷ fields_text x) (ap (λ (n : ℕ). take n ns) e ∙ take-length ns)) (puts_then f a)) l

-- ---- digits

pub digits_more : (i m : ℕ) → 1 ≤ i → 10 ≤ m → digits_of i m ≡ digits_of (i - 1) (m / 10) ++ ((48 + m % 10) ∷ [])
unfolding digits_of
digits_more zero m h l = absurd (omega arith)
digits_more (suc i) m h l = rw (le-ltb m 10 l) (ap (λ (n : ℕ). digits_of n (m / 10) ++ ((48 + m % 10) ∷ [])) (let e : i ≡ suc i - 1 = omega arith in e))

pub digits_last : (i m : ℕ) → 1 ≤ i → m < 10 → digits_of i m ≡ (48 + m) ∷ []
unfolding digits_of
digits_last zero m h l = absurd (omega arith)
digits_last (suc i) m h l = rw (lt-ltb m 10 l)

drop_stored : (l : List ℕ) (j v : ℕ) → j < length l → drop j (set l j v) ≡ v ∷ drop (suc j) l
drop_stored l j v h =
    drop-cons (set l j v) j 0 (rw (length-set l j v) h)
    ∙ ap (λ (x : ℕ). x ∷ drop (suc j) (set l j v)) (get_or-set_same l j v 0 h) ∙ ap (λ (x : List ℕ). v ∷ x) (drop-set-lt (suc j) l j v (omega arith))

-- the digits behind place i stand in the buffer, and those of m are left
pub record Digits (n : ℕ) (buf : List ℕ) (i m : ℕ) : Type 0 where
  pub some : 1 ≤ i
  pub i_le : i ≤ 20
  pub len : length buf ≡ 20
  pub small : m < 10 ^ i
  pub left : decimal n ≡ digits_of i m ++ drop i buf

pub digits_start : (n : ℕ) (buf : List ℕ) → n < 2 ^ 64 → length buf ≡ 20 → Digits n buf 20 n
digits_start n buf h l = record {
  some = lit≤ tt;
  i_le = lit≤ tt;
  len = l;
  small = let z : 2 ^ 64 ≤ 10 ^ 20 = lit≤ tt in omega arith;
  left = sym (ap (λ (x : List ℕ). digits_of 20 n ++ x) (drop_of_length-le buf (let e : length buf ≤ 20 = omega arith in e)) ∙ append-nil (digits_of 20 n));
}

two_digits : (i m : ℕ) → 10 ≤ m → m < 10 ^ i → 2 ≤ i
two_digits zero m h l = absurd (let z : 10 ^ 0 ≡ 1 = refl in omega arith)
two_digits (suc zero) m h l = absurd (let z : 10 ^ 1 ≡ 10 = refl in omega arith)
two_digits (suc (suc i)) m h l = omega arith

tenth : (i m : ℕ) → 1 ≤ i → m < 10 ^ i → m / 10 < 10 ^ (i - 1)
tenth zero m h l = absurd (omega arith)
tenth (suc i) m h l =
    let e : i ≡ suc i - 1 = omega arith in
    let p : 10 ^ suc i ≡ 10 ^ i * 10 = pow-suc 10 i in
    subst (λ (k : ℕ). m / 10 < 10 ^ k) e (omega arith)

module _ {n : ℕ} {buf : List ℕ} {i m : ℕ} (d : Digits n buf i m) where
  pub more_digits : 10 ≤ m → 2 ≤ i
  more_digits h = two_digits i m h d.small

  pub digit_more : 10 ≤ m → Digits n (set buf (i - 1) (48 + m % 10)) (i - 1) (m / 10)
  digit_more h =
      let t = two_digits i m h d.small in
      let s : suc (i - 1) ≡ i = omega arith in
      record {
        some = omega arith;
        i_le = let x = d.i_le in omega arith;
        len = length-set buf (i - 1) (48 + m % 10) ∙ d.len;
        small = tenth i m d.some d.small;
        left =
            d.left ∙ ap (λ (x : List ℕ). x ++ drop i buf) (digits_more i m d.some h) ∙ append_assoc (digits_of (i - 1) (m / 10)) ((48 + m % 10) ∷ []) (drop i buf)
            ∙ ap (λ (x : List ℕ). digits_of (i - 1) (m / 10) ++ x)
            (sym (drop_stored buf (i - 1) (48 + m % 10) (let x = d.i_le in let y = d.len in omega arith) ∙ ap (λ (k : ℕ). (48 + m % 10) ∷ drop k buf) s));
      }

  pub digit_last : m < 10 → drop (i - 1) (set buf (i - 1) (48 + m)) ≡ decimal n
  digit_last h =
      let s : suc (i - 1) ≡ i = (let x = d.some in omega arith) in
      drop_stored buf (i - 1) (48 + m) (let w = d.some in let x = d.i_le in let y = d.len in omega arith) ∙ ap (λ (k : ℕ). (48 + m) ∷ drop k buf) s
      ∙ sym (d.left ∙ ap (λ (x : List ℕ). x ++ drop i buf) (digits_last i m d.some h))

pub bytes_start : (s out : List ℕ) (at : ℕ) → Puts (take 0 s) out at out (at + 0)
bytes_start s out at = record { place = refl; written = refl }

-- a comma and the digits
pub field_put : (buf : List ℕ) (i n : ℕ) → i ≤ 20 → length buf ≡ 20 → drop i buf ≡ decimal n → {out out₁ out₂ : List ℕ} {at n₁ n₂ : ℕ} → Puts (44 ∷ []) out at out₁ n₁ → Puts (take (20 - i) (drop i buf)) out₁ n₁ out₂ n₂ → Puts (44 ∷ decimal n) out at out₂ n₂
field_put buf i n h l e a b = puts_as (ap (λ (x : List ℕ). 44 ∷ x) (take_all (20 - i) (drop i buf) (let m = length-drop i buf in omega arith) ∙ e)) (puts_then a b)
