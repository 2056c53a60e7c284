-- Rows one after another, written in order.
use Prim.Native.Nat.{ℕ, zero, suc, ◌+◌, ◌*◌, ◌≤◌, ◌<◌}
use native.Mathlib.Omega.{arith}
use native.Mathlib.Nat.{mul-suc, add-zero}
use mathlib.Core.Path.{◌≡◌, ap, sym, ◌∙◌, subst}
use mathlib.Core.List.{List, [], ◌∷◌, ◌++◌}
use lib.ListN.{length, get_or, set, drop, length-append, get_or-append}
use lib.Seq.{get_or-append-add, paste}
use Rattle.words.specs.Rows.{tabulate, flat}
use Rattle.words.specs.Inner.{row_put}
use Rattle.words.proofs.PasteLaws.{Filling, fill_start, fill_more, fill_done, paste_front}

module _ (wide : ℕ) where
  pub flat_length : (n : ℕ) (row : ℕ → List ℕ) → ((i : ℕ) → i < n → length (row i) ≡ wide) → length (flat (tabulate n row)) ≡ wide * n
  unfolding flat tabulate
  flat_length zero row h = omega arith
  flat_length (suc n) row h =
      length-append (row 0) (flat (tabulate n (λ i. row (suc i))))
      ∙ omega (arith, h 0 (omega arith), flat_length n (λ i. row (suc i)) (λ i l. h (suc i) (omega arith)), mul-suc wide n)

  pub flat_at : (n : ℕ) (row : ℕ → List ℕ) → ((i : ℕ) → i < n → length (row i) ≡ wide) → (i f : ℕ) → i < n → f < wide → get_or (flat (tabulate n row)) (wide * i + f) 0 ≡ get_or (row i) f 0
  unfolding flat tabulate
  flat_at zero row h i f l k = absurd (omega arith)
  flat_at (suc n) row h zero f l k =
      let e : wide * 0 + f ≡ f = omega arith in
      ap (λ (j : ℕ). get_or (row 0 ++ flat (tabulate n (λ i. row (suc i)))) j 0) e
      ∙ get_or-append (row 0) (flat (tabulate n (λ i. row (suc i)))) 0 f (rw (h 0 (omega arith)) k)
  flat_at (suc n) row h (suc i) f l k =
      let e : wide * suc i + f ≡ length (row 0) + (wide * i + f) = omega (arith, h 0 (omega arith), mul-suc wide i) in
      ap (λ (j : ℕ). get_or (row 0 ++ flat (tabulate n (λ i. row (suc i)))) j 0) e
      ∙ get_or-append-add (row 0) (flat (tabulate n (λ i. row (suc i)))) (wide * i + f) 0 ∙ flat_at n (λ i. row (suc i)) (λ j q. h (suc j) (omega arith)) i f (omega arith) k

  pub flat_done : (n : ℕ) (row : ℕ → List ℕ) (d s : List ℕ) (k : ℕ) → ((i : ℕ) → i < n → length (row i) ≡ wide) → Filling d 0 (flat (tabulate n row)) (wide * n) s k → wide * n ≤ k
      → s ≡ flat (tabulate n row) ++ drop (wide * n) d
  flat_done n row d s k h f l =
      let e = flat_length n row h in
      fill_done f l ∙ ap (paste d 0 (flat (tabulate n row))) (sym e) ∙ paste_front d (flat (tabulate n row)) ∙ ap (λ (j : ℕ). flat (tabulate n row) ++ drop j d) e

  pub flat_start : (n : ℕ) (row : ℕ → List ℕ) (d : List ℕ) → ((i : ℕ) → i < n → length (row i) ≡ wide) → wide * n ≤ length d → Filling d 0 (flat (tabulate n row)) (wide * n) d 0
  flat_start n row d h l = fill_start d 0 (flat (tabulate n row)) (wide * n) (omega arith) (omega (arith, flat_length n row h))

-- one row of two, and of four
module _ (n : ℕ) (row : ℕ → List ℕ) (d s : List ℕ) (i : ℕ) (h : i < n) where
  pub two_more : ((j : ℕ) → j < n → length (row j) ≡ 2) → Filling d 0 (flat (tabulate n row)) (2 * n) s (2 * i) → (a b : ℕ) → a ≡ get_or (row i) 0 0 → b ≡ get_or (row i) 1 0
      → Filling d 0 (flat (tabulate n row)) (2 * n) (set (set s (2 * i) a) (2 * i + 1) b) (2 * (i + 1))
  two_more w f a b e g =
      let one = fill_more f (2 * i) a (omega arith) (omega arith) (e ∙ sym (flat_at 2 n row w i 0 h (omega arith)) ∙ ap (λ (k : ℕ). get_or (flat (tabulate n row)) k 0) (add-zero (2 * i))) in
      let two = fill_more one (2 * i + 1) b (omega arith) (omega arith) (g ∙ sym (flat_at 2 n row w i 1 h (omega arith))) in
      let z : 2 * i + 1 + 1 ≡ 2 * (i + 1) = omega arith in
      subst (λ (k : ℕ). Filling d 0 (flat (tabulate n row)) (2 * n) (set (set s (2 * i) a) (2 * i + 1) b) k) z two

  pub four_more : ((j : ℕ) → j < n → length (row j) ≡ 4) → Filling d 0 (flat (tabulate n row)) (4 * n) s (4 * i) → (a b c e : ℕ) → row i ≡ a ∷ b ∷ c ∷ e ∷ []
      → Filling d 0 (flat (tabulate n row)) (4 * n) (row_put s (4 * i) a b c e) (4 * (i + 1))
  four_more w f a b c e r =
      let one = fill_more f (4 * i) a (omega arith) (omega arith) (sym (at 0 (omega arith)) ∙ ap (λ (k : ℕ). get_or (flat (tabulate n row)) k 0) (add-zero (4 * i))) in
      let two = fill_more one (4 * i + 1) b (omega arith) (omega arith) (sym (at 1 (omega arith))) in
      let three = fill_more two (4 * i + 2) c (omega arith) (omega arith) (sym (at 2 (omega arith)) ∙ ap (λ (k : ℕ). get_or (flat (tabulate n row)) k 0) (next 1)) in
      let four = fill_more three (4 * i + 3) e (omega arith) (omega arith) (sym (at 3 (omega arith)) ∙ ap (λ (k : ℕ). get_or (flat (tabulate n row)) k 0) (next2)) in
      let z : 4 * i + 1 + 1 + 1 + 1 ≡ 4 * (i + 1) = omega arith in
      subst (λ (k : ℕ). Filling d 0 (flat (tabulate n row)) (4 * n) (row_put s (4 * i) a b c e) k) z four
    where
      at : (k : ℕ) → k < 4 → get_or (flat (tabulate n row)) (4 * i + k) 0 ≡ get_or (a ∷ b ∷ c ∷ e ∷ []) k 0
      at k q = flat_at 4 n row w i k h q ∙ ap (λ (l : List ℕ). get_or l k 0) r

      next : (k : ℕ) → 4 * i + 2 ≡ 4 * i + 1 + 1
      next k = omega arith

      next2 : 4 * i + 3 ≡ 4 * i + 1 + 1 + 1
      next2 = omega arith
