-- Rows of bits: a bit that is put, rows that are joined word by word, and the first set bit of a row.
use mathlib.Core.Path.{◌≡◌, refl, sym, ap, ◌∙◌}
use mathlib.Core.Logic.{◌≢◌, ◌⊎◌, inl, inr}
use mathlib.Core.Bool.{Bool, true, false, cond, not, ◌||◌, ◌&&◌}
use mathlib.Core.List.{List}
use Prim.Native.Nat.{ℕ, ◌+◌, ◌-◌, ◌*◌, ◌/◌, ◌%◌, ◌^◌, ◌≤◌, ◌<◌}
use native.Mathlib.Omega.{arith}
use lib.Bits.{bit_and, bit_or, bit_xor, or_lt}
use lib.Dec.{eqb}
use lib.ListN.{length, get_or, set, length-set}
use borrow.Author.Tests.{eq-eqb, ne_eqb, eqb-true, eqb-false}
use Rattle.words.specs.Inner.{Region, Kept, below, above}
use Rattle.words.proofs.Points.{cut, same, stored}
use Rattle.words.proofs.RegionLaws.{Done, done_start, done_more, done_skip, done_all, done_next, done_source, row_before}
use Rattle.bits.specs.Bits.{digit, bit_of, bit}
use Rattle.bits.specs.Inner.{PutBit, Row, Grown, Aligned, same as same_row, apart, Lowest, FirstSet}
use Rattle.bits.proofs.DigitLaws.{bit_or_lem, bit_and_lem, bit_xor_lem, bit_power, bit_zero, shift_one, low_bit, differ_at}

-- ---- one bit

pub tested : (w : List ℕ) (base b : ℕ) → eqb (bit_and (get_or w (base + b / 64) 0 / 2 ^ (b % 64)) 1) 1 ≡ bit w base b
tested w base b = ap (λ (y : ℕ). eqb y 1) (low_bit (get_or w (base + b / 64) 0 / 2 ^ (b % 64)))

-- a word stored whose bits are those of the old one but for bit b, which is v
pub put_bit : (w : List ℕ) (base b : ℕ) (v : Bool) (x y : ℕ) → x ≡ base + b / 64 → x < length w
    → ((k : ℕ) → bit_of y k ≡ cond (eqb k (b % 64)) v (bit_of (get_or w x 0) k)) → PutBit w (set w x y) base b v
put_bit w base b v x y e h f = record {
  len = simp length-set;
  bits = λ c. stored (λ z. bit_of z (c % 64) ≡ cond (eqb c b) v (bit w base c)) w x y (base + c / 64) h
      (λ q. f (c % 64) ∙ same c b
      (λ s. let r : c % 64 ≡ b % 64 = omega arith in rw (eq-eqb c b s, eq-eqb (c % 64) (b % 64) r))
      (λ s. let r : c % 64 ≢ b % 64 = (λ z. s (omega arith)) in rw (ne_eqb c b s, ne_eqb (c % 64) (b % 64) r) (ap (λ (z : ℕ). bit_of (get_or w z 0) (c % 64)) (sym q))))
      (λ q. rw (ne_eqb c b (λ s. q (omega arith))));
  rest = λ i n. stored (λ z. z ≡ get_or w i 0) w x y i h (λ q. absurd (n (q ∙ e))) (λ _. refl);
}

or_cond : (a t : Bool) → (a || t) ≡ cond t true a
or_cond true true = refl
or_cond true false = refl
or_cond false true = refl
or_cond false false = refl

clear_cond : (a t : Bool) → cond a (not (a && t)) (a && t) ≡ cond t false a
clear_cond true true = refl
clear_cond true false = refl
clear_cond false true = refl
clear_cond false false = refl

pub set_word : (x j : ℕ) → j < 64 → (k : ℕ) → bit_of (bit_or x ((1 * 2 ^ j) % 2 ^ 64)) k ≡ cond (eqb k j) true (bit_of x k)
set_word x j h k =
    ap (λ (m : ℕ). bit_of (bit_or x m) k) (shift_one j h) ∙ bit_or_lem x (2 ^ j) k
    ∙ ap (λ (t : Bool). bit_of x k || t) (bit_power j k) ∙ or_cond (bit_of x k) (eqb k j)

pub clear_word : (x j : ℕ) → j < 64 → (k : ℕ) → bit_of (bit_xor x (bit_and x ((1 * 2 ^ j) % 2 ^ 64))) k ≡ cond (eqb k j) false (bit_of x k)
clear_word x j h k =
    ap (λ (m : ℕ). bit_of (bit_xor x (bit_and x m)) k) (shift_one j h) ∙ bit_xor_lem x (bit_and x (2 ^ j)) k
    ∙ ap (λ (t : Bool). cond (bit_of x k) (not t) t) (bit_and_lem x (2 ^ j) k ∙ ap (λ (t : Bool). bit_of x k && t) (bit_power j k))
    ∙ clear_cond (bit_of x k) (eqb k j)

-- ---- rows

-- words whose bits are given, bit by bit
pub row_of : {w₀ w : List ℕ} {to n : ℕ} {f : ℕ → ℕ} → Region w₀ w to n f → (g : ℕ → Bool)
    → ((i k : ℕ) → i < n → k < 64 → bit_of (f i) k ≡ g (i * 64 + k)) → Row w₀ w to n g
row_of {w₀} {w} {to} {n} {f} r g h = record {
  len = r.len;
  bits = λ c l.
      let e : c / 64 * 64 + c % 64 ≡ c = omega arith in
      ap (λ (y : ℕ). bit_of y (c % 64)) (r.inside (to + c / 64) (c / 64) refl (omega arith)) ∙ h (c / 64) (c % 64) (omega arith) (omega arith) ∙ ap g e;
  before = r.before;
  after = r.after;
}

-- a bit by its word and its place there
pub bit_at : (w : List ℕ) (base i k : ℕ) → k < 64 → bit w base (i * 64 + k) ≡ bit_of (get_or w (base + i) 0) k
bit_at w base i k h =
    let e : (i * 64 + k) / 64 ≡ i = omega arith in
    let z : (i * 64 + k) % 64 ≡ k = omega arith in
    rw (e, z)

-- rows of one table are aligned
pub aligned_rows : (base u v words : ℕ) → Aligned (base + u * words) (base + v * words) words
aligned_rows base u v words =
    same u v
    (λ e. same_row (ap (λ (k : ℕ). base + k * words) e))
    (λ e. apart (cut u v (λ h. below (omega (arith, row_before u v words (omega arith)))) (λ h. above (omega (arith, row_before v u words h)))))

-- the source's next word is as it was
pub done_aligned : {w₀ w : List ℕ} {to n : ℕ} {f : ℕ → ℕ} {k : ℕ} → Done w₀ w to n f k → {from : ℕ} → Aligned to from n → k < n
    → get_or w (from + k) 0 ≡ get_or w₀ (from + k) 0
done_aligned {k = k} d {from} (same_row e) h = done_next d (from + k) (omega arith)
done_aligned {k = k} d {from} (apart a) h = done_source d a (from + k) (omega arith) (omega arith)

-- words that z's words were put into, whose bits are s
pub row_joined : (z : ℕ → ℕ) {w₀ w : List ℕ} {to n : ℕ} → Region w₀ w to n (λ i. bit_or (get_or w₀ (to + i) 0) (z i)) → (s : ℕ → Bool)
    → ((i j : ℕ) → i < n → j < 64 → bit_of (z i) j ≡ s (i * 64 + j)) → Row w₀ w to n (λ c. bit w₀ to c || s c)
row_joined z {w₀} {w} {to} {n} r s f =
    row_of r (λ c. bit w₀ to c || s c)
    (λ i j l m. bit_or_lem (get_or w₀ (to + i) 0) (z i) j ∙ ap (λ (t : Bool). t || bit_of (z i) j) (sym (bit_at w₀ to i j m)) ∙ ap (λ (t : Bool). bit w₀ to (i * 64 + j) || t) (f i j l m))

-- a row that is filled with a word of zeros, and one that is copied
pub row_cleared : {w₀ w : List ℕ} {to n : ℕ} → Region w₀ w to n (λ _. 0) → Row w₀ w to n (λ _. false)
row_cleared r = row_of r (λ _. false) (λ i k l m. bit_zero k)

pub row_copied : {w₀ w : List ℕ} {to n : ℕ} (s : List ℕ) (from : ℕ) → Region w₀ w to n (λ i. get_or s (from + i) 0) → Row w₀ w to n (λ c. bit s from c)
row_copied s from r = row_of r (λ c. bit s from c) (λ i k l m. sym (bit_at s from i k m))

-- ---- what is left of other rows

pub bit_kept : {w₀ w : List ℕ} {base n : ℕ} → Kept w₀ w base n → (c : ℕ) → c < n * 64 → bit w base c ≡ bit w₀ base c
bit_kept {base = base} k c h = ap (λ (y : ℕ). bit_of y (c % 64)) (k.same (base + c / 64) (omega arith) (omega arith))

pub row_keeps : {w₀ w : List ℕ} {to n : ℕ} {g : ℕ → Bool} → Row w₀ w to n g → (b m : ℕ) → (b + m ≤ to) ⊎ (to + n ≤ b) → Kept w₀ w b m
row_keeps r b m (inl h) = record { same = λ x l q. r.before x (omega arith) }
row_keeps r b m (inr h) = record { same = λ x l q. r.after x (omega arith) }

pub put_keeps : {w₀ w : List ℕ} {base c : ℕ} {v : Bool} → PutBit w₀ w base c v → (b m : ℕ) → (b + m ≤ base + c / 64) ⊎ (base + c / 64 < b) → Kept w₀ w b m
put_keeps r b m (inl h) = record { same = λ x l q. r.rest x (λ e. absurd (omega arith)) }
put_keeps r b m (inr h) = record { same = λ x l q. r.rest x (λ e. absurd (omega arith)) }

-- ---- a row that other bits are put into: z's words, in order

pub record Growing (w₀ w : List ℕ) (to n : ℕ) (z : ℕ → ℕ) (k : ℕ) (grew : Bool) : Type 0 where
  pub done : Done w₀ w to n (λ i. bit_or (get_or w₀ (to + i) 0) (z i)) k
  pub none : grew ≡ false → w ≡ w₀
  pub some : grew ≡ true → (i : ℕ) × (i < n) × (j : ℕ) × (j < 64) × (bit_of (get_or w₀ (to + i) 0) j ≡ false) × (bit_of (bit_or (get_or w₀ (to + i) 0) (z i)) j ≡ true)

never : {A : Type 0} → true ≡ false → A
never e = absurd (let z : ◌≡◌ {A = ℕ} 0 1 = cc in omega arith)

pub grow_start : (w : List ℕ) (to n : ℕ) (z : ℕ → ℕ) → to + n ≤ length w → Growing w w to n z 0 false
grow_start w to n z h = record { done = done_start w to n _ h; none = λ _. refl; some = λ e. never (sym e) }

-- a word that is larger than the one it was made from by an or has a bit that is new
new_bit : (x y : ℕ) → x < 2 ^ 64 → y < 2 ^ 64 → bit_or x y ≢ x → (j : ℕ) × (j < 64) × (bit_of x j ≡ false) × (bit_of (bit_or x y) j ≡ true)
new_bit x y h l n = at_bit (differ_at 64 (bit_or x y) x (or_lt 64 x y h l) h n)
  where
    go : (j : ℕ) (a b : Bool) → bit_of x j ≡ a → bit_of (bit_or x y) j ≡ b → (a ≡ true → b ≡ true) → digit j (bit_or x y) ≢ digit j x
        → (bit_of x j ≡ false) × (bit_of (bit_or x y) j ≡ true)
    go j true true p q f d = absurd (d (omega (arith, eqb-true (digit j x) 1 p, eqb-true (digit j (bit_or x y)) 1 q)))
    go j true false p q f d = never (sym (f refl))
    go j false true p q f d = (p, q)
    go j false false p q f d = absurd (d (zero-both (eqb-false (digit j x) 1 p) (eqb-false (digit j (bit_or x y)) 1 q)))
      where
        zero-both : (digit j x ≡ 1 → ⊥) → (digit j (bit_or x y) ≡ 1 → ⊥) → digit j (bit_or x y) ≡ digit j x
        zero-both u v = omega arith

    at_bit : (j : ℕ) × (j < 64) × (digit j (bit_or x y) ≢ digit j x) → (j : ℕ) × (j < 64) × (bit_of x j ≡ false) × (bit_of (bit_or x y) j ≡ true)
    at_bit r = let s = go r.0 (bit_of x r.0) (bit_of (bit_or x y) r.0) refl refl (λ e. bit_or_lem x y r.0 ∙ ap (λ (t : Bool). t || bit_of y r.0) e) r.2 in (r.0, r.1, s.0, s.1)

module _ {w₀ w : List ℕ} {to n : ℕ} {z : ℕ → ℕ} {k : ℕ} {grew : Bool} (g : Growing w₀ w to n z k grew) where
  old : (x : ℕ) → x ≡ get_or w (to + k) 0 → x ≡ get_or w₀ (to + k) 0
  old x e = e ∙ g.done.now_is.after (to + k) (omega arith)

  -- x is the target's next word, s the source's: it has no new bit, or it has one
  pub grow_same : (x s : ℕ) → k < n → x ≡ get_or w (to + k) 0 → s ≡ z k → bit_or x s ≡ x → Growing w₀ w to n z (k + 1) grew
  grow_same x s h ex es e = record {
    done = done_skip g.done h (rw (← old x ex, ← es) (sym e));
    none = g.none;
    some = g.some;
  }

  pub grow_more : (x s : ℕ) → k < n → x ≡ get_or w (to + k) 0 → s ≡ z k → bit_or x s ≢ x → x < 2 ^ 64 → s < 2 ^ 64
      → Growing w₀ (set w (to + k) (bit_or x s)) to n z (k + 1) true
  grow_more x s h ex es ne a b =
      let r = new_bit x s a b ne in
      record {
        done = done_more g.done (to + k) (bit_or x s) h refl (rw (← old x ex, ← es));
        none = λ e. never e;
        some = λ _. (k, h, r.0, r.1, rw (← old x ex) r.2, rw (← old x ex, ← es) r.3);
      }

  -- s: the bits of z's words
  pub grown : n ≤ k → (s : ℕ → Bool) → ((i j : ℕ) → i < n → j < 64 → bit_of (z i) j ≡ s (i * 64 + j)) → Grown w₀ w to n (λ c. bit w₀ to c || s c) grew
  grown h s f =
      let r = done_all g.done h in
      record {
        row = row_joined z r s f;
        none = g.none;
        some = λ e. let q = g.some e in let li = q.1 in let lj = q.3 in (
          q.0 * 64 + q.2,
          omega arith,
          bit_at w₀ to q.0 q.2 lj ∙ q.4,
          bit_at w to q.0 q.2 lj ∙ ap (λ (y : ℕ). bit_of y q.2) (r.inside (to + q.0) q.0 refl li) ∙ q.5,
        );
      }

-- the bits of two rows
pub bits_both : (w : List ℕ) (one two : ℕ) (i j : ℕ) → j < 64
    → bit_of (bit_or (get_or w (one + i) 0) (get_or w (two + i) 0)) j ≡ (bit w one (i * 64 + j) || bit w two (i * 64 + j))
bits_both w one two i j h = bit_or_lem (get_or w (one + i) 0) (get_or w (two + i) 0) j ∙ rw (bit_at w one i j h, bit_at w two i j h)

-- the bits of one row that pass another, and those of a third
pub bits_passed : (w : List ℕ) (from pass leave : ℕ) (i j : ℕ) → j < 64
    → bit_of (bit_or (bit_and (get_or w (from + i) 0) (get_or w (pass + i) 0)) (get_or w (leave + i) 0)) j
    ≡ (bit w from (i * 64 + j) && bit w pass (i * 64 + j) || bit w leave (i * 64 + j))
bits_passed w from pass leave i j h =
    bit_or_lem (bit_and (get_or w (from + i) 0) (get_or w (pass + i) 0)) (get_or w (leave + i) 0) j
    ∙ ap (λ (t : Bool). t || bit_of (get_or w (leave + i) 0) j) (bit_and_lem (get_or w (from + i) 0) (get_or w (pass + i) 0) j)
    ∙ rw (bit_at w from i j h, bit_at w pass i j h, bit_at w leave i j h)

-- ---- the first set bit

-- no bit of the words from `start` up to k is set
pub record Unset (w : List ℕ) (base n start k : ℕ) : Type 0 where
  pub start_le : start ≤ k
  pub k_le : k ≤ n
  pub none : (c : ℕ) → start * 64 ≤ c → c < k * 64 → bit w base c ≡ false

pub unset_start : (w : List ℕ) (base n start : ℕ) → start ≤ n → Unset w base n start start
unset_start w base n start h = record { start_le = omega arith; k_le = h; none = λ c l q. absurd (omega arith) }

module _ {w : List ℕ} {base n start k : ℕ} (u : Unset w base n start k) where
  pub unset_more : k < n → get_or w (base + k) 0 ≡ 0 → Unset w base n start (k + 1)
  unset_more h e = record {
    start_le = omega arith;
    k_le = omega arith;
    none = λ c l q. cut (k * 64) c
        (λ m. let z : c / 64 ≡ k = omega arith in ap (λ (i : ℕ). bit_of (get_or w (base + i) 0) (c % 64)) z ∙ ap (λ (y : ℕ). bit_of y (c % 64)) e ∙ bit_zero (c % 64))
        (λ m. u.none c l m);
  }

  pub first_none : n ≤ k → FirstSet w base n start (n * 64)
  first_none h = record { from = omega arith; within = omega arith; set = λ q. absurd (omega arith); least = λ c l q. u.none c l (omega arith) }

  pub first_here : k < n → (r : ℕ) → Lowest (get_or w (base + k) 0) r → FirstSet w base n start (k * 64 + r)
  first_here h r low = record {
    from = omega arith;
    within = omega arith;
    set = λ _. bit_at w base k r low.within ∙ low.set;
    least = λ c l q. cut (k * 64) c
        (λ m. let z : k * 64 + (c - k * 64) ≡ c = omega arith in
        rw z at (bit_at w base k (c - k * 64) (omega arith) ∙ low.least (c - k * 64) (omega arith)))
        (λ m. u.none c l m);
  }
