-- Laws of verdicts, one set for every group of records.
use Rattle.std.specs.Prelude.{Result, Err, IsErrAnd}
use Rattle.std.proofs.lemmas.Result.{err_from_is_err_and}
use Prim.Native.Nat.{ℕ, zero, suc, ◌+◌, ◌≤◌, ◌<◌}
use native.Mathlib.Numerals.{add-one}
use native.Mathlib.Omega.{arith}
use native.Mathlib.Decide.{le_ind, ℕ_discrete}
use mathlib.Core.Path.{◌≡◌, refl, sym, ap, ◌∙◌}
use mathlib.Core.Bool.{Bool, true, false, cond}
use mathlib.Core.List.{List, [], ◌∷◌}
use Rattle.refusals.specs.Outcomes.{numbered}
use Rattle.refusals.specs.Verdicts.{first, in_order, scan, check, counted_on, Bad, Fine, Verdict}
use native.Mathlib.Nat.{zero-add}
use Rattle.refusals.specs.declared.Refusal.{Refusal}
use Rattle.refusals.specs.declared.Refused.{Refused}

pub bad_fine : {A : Type 0} {r : Refusal} {i : ℕ} → Bad r i ≡ Fine → A
bad_fine e = absurd (let z : ◌≡◌ {A = ℕ} 0 1 = cc in omega arith)

-- refusals that are the same have one number and one index
pub bad_same : {r q : Refusal} {i j : ℕ} → Bad r i ≡ Bad q j → (r ≡ q) × (i ≡ j)
bad_same {r} {q} {i} {j} e = let z : ◌≡◌ {A = Refused} (r, i) (q, j) = cc in (ap (λ x. x.0) z, ap (λ x. x.1) z)

-- `?` hands on the refusal that it met
pub handed_on : {A : Type 0} {r : Result A Refused} {e : Refused} → IsErrAnd r (λ y. y ≡ e) → r ≡ Err e
handed_on {A} {r} h = let p = err_from_is_err_and r h in p.1 ∙ ap Err p.2

-- a check that is fine was not met
pub check_told : (r : Refusal) (t : Bool) → check r t ≡ Fine → t ≡ false
check_told r true e = bad_fine e
check_told r false e = refl

-- what is told as done was not refused
pub numbered_fine : (v : Verdict) → numbered Fine ≡ numbered v → v ≡ Fine
numbered_fine Fine e = refl
numbered_fine (Err x) e = absurd (let z : ◌≡◌ {A = ℕ} 0 1 = cc in omega arith)

-- ---- the first of two

pub first_fine : (v w : Verdict) → v ≡ Fine → first v w ≡ w
unfolding first
first_fine v w e = simp e

pub first_bad : (v w : Verdict) (r : Refusal) (i : ℕ) → v ≡ Bad r i → first v w ≡ Bad r i
unfolding first
first_bad v w r i e = simp e

-- a chain of checks, one step more
pub first_then : (r v a w : Verdict) → r ≡ first v w → v ≡ a → r ≡ first a w
first_then r v a w p q = p ∙ ap (λ (x : Verdict). first x w) q

-- a chain that is fine was fine at each step
pub first_left : (v w : Verdict) → first v w ≡ Fine → v ≡ Fine
unfolding first
first_left Fine w e = refl
first_left (Err x) w e = e

pub first_right : (v w : Verdict) → first v w ≡ Fine → w ≡ Fine
unfolding first
first_right Fine w e = e
first_right (Err x) w e = absurd (let z : ◌≡◌ {A = ℕ} 0 1 = cc in omega arith)

-- a check that is made last and was not met
pub first_last : (v : Verdict) → first v Fine ≡ v
unfolding first
first_last Fine = refl
first_last (Err e) = refl

pub first_assoc : (u v w : Verdict) → first (first u v) w ≡ first u (first v w)
unfolding first
first_assoc Fine v w = refl
first_assoc (Err e) v w = refl

-- ---- checks in order

module _ (r : Refusal) (t : Bool) (vs : List Verdict) where
  pub check_bad : t ≡ true → in_order (check r t ∷ vs) ≡ Bad r 0
  unfolding in_order first
  check_bad e = rw e

  pub check_fine : t ≡ false → in_order (check r t ∷ vs) ≡ in_order vs
  unfolding in_order first
  check_fine e = rw e

pub check_last : (v : Verdict) → in_order (v ∷ []) ≡ v
unfolding in_order
check_last v = first_last v

-- three checks: a count, the space, and the records
module _ (r q : Refusal) (b t : Bool) (v : Verdict) where
  pub three_first : b ≡ true → Bad r 0 ≡ in_order (check r b ∷ check q t ∷ v ∷ [])
  three_first e = sym (check_bad r b (check q t ∷ v ∷ []) e)

  pub three_second : b ≡ false → t ≡ true → Bad q 0 ≡ in_order (check r b ∷ check q t ∷ v ∷ [])
  three_second e d = sym (check_fine r b (check q t ∷ v ∷ []) e ∙ check_bad q t (v ∷ []) d)

  pub three_third : b ≡ false → t ≡ false → v ≡ in_order (check r b ∷ check q t ∷ v ∷ [])
  three_third e d = sym (check_fine r b (check q t ∷ v ∷ []) e ∙ check_fine q t (v ∷ []) d ∙ check_last v)

pub counted_from_none : (v : Verdict) → counted_on 0 v ≡ v
counted_from_none Fine = refl
counted_from_none (Err e) = ap (Bad e.0) (zero-add e.1)

-- ---- the first record whose test is true

module _ (r : Refusal) (t : ℕ → Bool) where
  pub scan_none : scan r t 0 ≡ Fine
  unfolding scan
  scan_none = refl

  pub scan_miss : (i : ℕ) → scan r t i ≡ Fine → t i ≡ false → scan r t (i + 1) ≡ Fine
  unfolding scan first
  scan_miss i e h = rw add-one (simp (e, h))

  scan_here : (i : ℕ) → scan r t i ≡ Fine → t i ≡ true → scan r t (suc i) ≡ Bad r i
  unfolding scan first
  scan_here i e h = simp (e, h)

  scan_kept : (i n : ℕ) → scan r t n ≡ Bad r i → scan r t (suc n) ≡ Bad r i
  unfolding scan first
  scan_kept i n e = simp e

  -- the records after the first offending one are not looked at
  pub scan_hit : (i n : ℕ) → scan r t i ≡ Fine → t i ≡ true → i < n → scan r t n ≡ Bad r i
  scan_hit i n e h l = le_ind {n = suc i} (λ m. scan r t m ≡ Bad r i) (scan_here i e h) (λ m _ p. scan_kept i m p) n l

  pub scan_end : (i n : ℕ) → scan r t i ≡ Fine → i ≤ n → n ≤ i → scan r t n ≡ Fine
  scan_end i n e a b = let q : i ≡ n = omega arith in rw q at e

  scan_last : (n : ℕ) → scan r t (suc n) ≡ Fine → (scan r t n ≡ Fine) × (t n ≡ false)
  unfolding scan first
  scan_last n e = go (scan r t n) (t n) refl refl e
    where
      go : (v : Verdict) (b : Bool) → scan r t n ≡ v → t n ≡ b → first v (cond b (Bad r n) Fine) ≡ Fine → (scan r t n ≡ Fine) × (t n ≡ false)
      go Fine true p q h = absurd (let z : ◌≡◌ {A = ℕ} 0 1 = cc in omega arith)
      go Fine false p q h = (p, q)
      go (Err e) b p q h = absurd (let z : ◌≡◌ {A = ℕ} 0 1 = cc in omega arith)

  -- a group without refusal has no offending record
  pub scan_fine : (n : ℕ) → scan r t n ≡ Fine → (i : ℕ) → i < n → t i ≡ false
  scan_fine zero e i l = absurd (omega arith)
  scan_fine (suc n) e i l =
      elim (ℕ_discrete i n) [ yes q ↦ rw q (scan_last n e).1 | no q ↦ scan_fine n (scan_last n e).0 i (omega arith) ]

  -- and one without offending record is not refused
  pub scan_all : (n : ℕ) → ((i : ℕ) → i < n → t i ≡ false) → scan r t n ≡ Fine
  unfolding scan first
  scan_all zero f = refl
  scan_all (suc n) f = rw (scan_all n (λ i h. f i (omega arith)), f n (omega arith)) refl

  -- what is refused is one of the records, under r
  pub scan_bad : (n : ℕ) (q : Refusal) (i : ℕ) → scan r t n ≡ Bad q i → (q ≡ r) × (i < n)
  unfolding scan first
  scan_bad zero q i e = absurd (let z : ◌≡◌ {A = ℕ} 0 1 = cc in omega arith)
  scan_bad (suc n) q i e = go (scan r t n) (t n) refl refl (scan_bad n q i) e
    where
      go : (v : Verdict) (b : Bool) → scan r t n ≡ v → t n ≡ b → (scan r t n ≡ Bad q i → (q ≡ r) × (i < n)) → first v (cond b (Bad r n) Fine) ≡ Bad q i → (q ≡ r) × (i < suc n)
      go Fine true p h f e = let (a, d) = bad_same e in (sym a, omega arith)
      go Fine false p h f e = absurd (let z : ◌≡◌ {A = ℕ} 0 1 = cc in omega arith)
      go (Err x) b p h f e = let (a, l) = f (p ∙ e) in (a, omega arith)
