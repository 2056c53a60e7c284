-- Which verdicts have an index that fits its 32 bits of a code, and what is read back from the code of one that has.
use Rattle.std.specs.Prelude.{Err}
use Prim.Native.Nat.{ℕ, zero, suc, ◌+◌, ◌/◌, ◌%◌, ◌^◌, ◌≤◌, ◌<◌}
use native.Mathlib.Omega.{arith}
use mathlib.Core.Path.{◌≡◌, refl, sym, ap, subst, ◌∙◌}
use mathlib.Core.Logic.{inl, inr}
use mathlib.Core.Bool.{Bool, true, false, cond}
use mathlib.Core.Option.{Option, some, none}
use mathlib.Core.List.{List, [], ◌∷◌}
use Rattle.refusals.specs.declared.Refusal.{Refusal}
use Rattle.refusals.specs.Verdicts.{number_of, first, in_order, scan, check, counted_on, Bad, Fine, Verdict}
use Rattle.refusals.specs.Outcomes.{given, unless}
use Rattle.codes.specs.Codes.{refusal_code, code_of, count_code, option_code, truth_of, truth_code, verdict_code, Small, SmallOrAbsent, Read}
use Rattle.codes.specs.Inner.{index_of, Fits}
use Rattle.codes.proofs.CodeLaws.{code_number, code_index}

-- ---- verdicts whose index fits

pub fine_fits : Fits Fine
fine_fits = record { index = omega arith }

pub named_fits : (r : Refusal) (b : Bool) (i : ℕ) → i < 2 ^ 32 → Fits (cond b (Bad r i) Fine)
named_fits r true i h = record { index = h }
named_fits r false i h = fine_fits

-- a check of one fact
pub check_fits : (r : Refusal) (b : Bool) → Fits (check r b)
check_fits r b = named_fits r b 0 (omega arith)

-- checks one after the other: the second is made where the first is fine
pub first_fits : (v w : Verdict) → Fits v → (v ≡ Fine → Fits w) → Fits (first v w)
unfolding first
first_fits Fine w a b = b refl
first_fits (Err e) w a b = a

pub order_fits : (v : Verdict) (vs : List Verdict) → Fits v → (v ≡ Fine → Fits (in_order vs)) → Fits (in_order (v ∷ vs))
unfolding in_order
order_fits v vs a b = first_fits v (in_order vs) a b

pub none_fits : Fits (in_order [])
unfolding in_order
none_fits = fine_fits

-- the records of a group
pub scan_fits : (r : Refusal) (t : ℕ → Bool) (n : ℕ) → n < 2 ^ 32 → Fits (scan r t n)
unfolding scan
scan_fits r t zero h = fine_fits
scan_fits r t (suc n) h = first_fits (scan r t n) (cond (t n) (Bad r n) Fine) (scan_fits r t n (omega arith)) (λ _. named_fits r (t n) n (omega arith))

-- an index within the records of a group
pub scan_within : (r : Refusal) (t : ℕ → Bool) (n : ℕ) → index_of (scan r t n) ≤ n
unfolding scan first
scan_within r t zero = omega arith
scan_within r t (suc n) = go (scan r t n) (t n) (scan_within r t n)
  where
    go : (v : Verdict) (b : Bool) → index_of v ≤ n → index_of (first v (cond b (Bad r n) Fine)) ≤ suc n
    go Fine true h = omega arith
    go Fine false h = omega arith
    go (Err e) b h = omega arith

-- "a second list's ranges are counted on from the first"
pub counted_fits : (n : ℕ) (v : Verdict) → n + index_of v < 2 ^ 32 → Fits (counted_on n v)
counted_fits n Fine h = fine_fits
counted_fits n (Err e) h = record { index = h }

-- ---- what is read back

truth_small : (b : Bool) → truth_of b < 2 ^ 32
truth_small true = omega arith
truth_small false = omega arith

option_small : (o : Option ℕ) → ((c : ℕ) → o ≡ some c → c < 2 ^ 32) → SmallOrAbsent (option_code (given o))
option_small (some c) h = inl (h c refl)
option_small none h = inr refl

pub read_back : {Answer : ℕ → Type 0} (v : Verdict) {r : ℕ} → Fits v → (v ≡ Fine → Answer r) → ((k : Refusal) (i : ℕ) → v ≡ Bad k i → r ≡ refusal_code (number_of k) i) → Read Answer v r
read_back v f a b = record {
  answer = a;
  number = λ k i e. ap (λ (x : ℕ). x / 2 ^ 32) (b k i e) ∙ code_number (number_of k) i;
  index = λ k i e. ap (λ (x : ℕ). x % 2 ^ 32) (b k i e) ∙ code_index (number_of k) i (subst (λ (w : Verdict). index_of w < 2 ^ 32) e f.index);
}

module _ (v : Verdict) {r : ℕ} (f : Fits v) where
  pub read_verdict_lem : r ≡ verdict_code v → Read Small v r
  read_verdict_lem q =
      read_back v f (λ e. let z : r ≡ 0 = q ∙ ap verdict_code e in omega arith) (λ k i e. q ∙ ap verdict_code e)

  pub read_done : {A : Type 0} (a : A) → r ≡ code_of (unless v a) → Read Small v r
  read_done {A = A} a q =
      read_back v f (λ e. let z : r ≡ 0 = q ∙ ap (λ (w : Verdict). code_of (unless {A = A} w a)) e in omega arith) (λ k i e. q ∙ ap (λ (w : Verdict). code_of (unless {A = A} w a)) e)

  pub read_count : (n : ℕ) → r ≡ count_code (unless v n) → (v ≡ Fine → n < 2 ^ 32) → Read Small v r
  read_count n q h =
      read_back v f (λ e. let z : r ≡ n = q ∙ ap (λ (w : Verdict). count_code (unless w n)) e in let l = h e in omega arith) (λ k i e. q ∙ ap (λ (w : Verdict). count_code (unless w n)) e)

  pub read_truth : (b : Bool) → r ≡ truth_code (unless v b) → Read Small v r
  read_truth b q =
      read_back v f (λ e. subst Small (sym (q ∙ ap (λ (w : Verdict). truth_code (unless w b)) e)) (truth_small b)) (λ k i e. q ∙ ap (λ (w : Verdict). truth_code (unless w b)) e)

  pub read_option : (o : Option ℕ) → r ≡ option_code (unless v o) → ((c : ℕ) → v ≡ Fine → o ≡ some c → c < 2 ^ 32) → Read SmallOrAbsent v r
  read_option o q h =
      read_back v f (λ e. subst SmallOrAbsent (sym (q ∙ ap (λ (w : Verdict). option_code (unless w o)) e)) (option_small o (λ c. h c e))) (λ k i e. q ∙ ap (λ (w : Verdict). option_code (unless w o)) e)
