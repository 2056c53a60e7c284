-- A lent list: its test at one range, by the numbers that are read; without refusal no range is reversed, and one that is to be in order is in order and apart.
use Rattle.std.specs.Prelude.{Err}
use mathlib.Core.Path.{◌≡◌, refl, ap, sym, ◌∙◌}
use mathlib.Core.Bool.{Bool, true, false, true≢false}
use mathlib.Core.List.{List, [], ◌∷◌}
use Prim.Native.Nat.{ℕ, zero, suc, ◌-◌, ◌≤◌, ◌<◌}
use native.Mathlib.Omega.{arith}
use lib.ListN.{length, take}
use lib.Seq.{get_or-take}
use lib.Dec.{leb}
use borrow.Author.Tests.{lt-ltb, le-ltb, ltb-false, leb-false}
use Rattle.words.proofs.Bools.{or_neither}
use Rattle.refusals.specs.declared.Refusal.TheVariants.{Want}
use Rattle.refusals.specs.Verdicts.{refuses, Fine, Verdict}
use Rattle.refusals.proofs.Laws.{scan_fine, scan_all}
use Rattle.ranges.specs.declared.Range.{Range}
use Rattle.ranges.specs.Points.{range, range_at, Upright, Past, Apart}
use Rattle.ranges.specs.Lent.{reversed_at, close_at, wrong_at, list_verdict, faulty}
use Rattle.ranges.proofs.PointLaws.{upright_none, upright_cons}

-- ---- the test at one range, by the numbers that are read

module _ (rs : List Range) (i s e : ℕ) (is : range_at rs i ≡ range s e) (o : Bool) where
  pub wrong_reversed : e < s → true ≡ wrong_at o rs i
  wrong_reversed h = sym (simp (is, lt-ltb e s h))

  upright_at : s ≤ e → reversed_at rs i ≡ false
  upright_at h = simp (is, le-ltb e s h)

  pub wrong_loose : s ≤ e → o ≡ false → false ≡ wrong_at o rs i
  wrong_loose h q = sym (rw (upright_at h, q))

  pub wrong_front : s ≤ e → o ≡ true → i ≡ 0 → false ≡ wrong_at o rs i
  wrong_front h q z = sym (rw (upright_at h, q) (go i z))
    where
      go : (k : ℕ) → k ≡ 0 → close_at rs k ≡ false
      go zero e = refl
      go (suc k) e = absurd (omega arith)

  pub wrong_close : s ≤ e → o ≡ true → (i ≡ 0 → ⊥) → (t f : ℕ) → range_at rs (i - 1) ≡ range t f → leb s f ≡ wrong_at o rs i
  wrong_close h q z t f before = sym (rw (upright_at h, q) (go i z is before))
    where
      go : (k : ℕ) → (k ≡ 0 → ⊥) → range_at rs k ≡ range s e → range_at rs (k - 1) ≡ range t f → close_at rs k ≡ leb s f
      go zero z a b = absurd (z refl)
      go (suc k) z a b = let d : suc k - 1 ≡ k = omega arith in rw (a, rw d at b)

-- the first n of a list are tested as in the list
pub wrong_take : (o : Bool) (n : ℕ) (rs : List Range) (i : ℕ) → i < n → wrong_at o (take n rs) i ≡ wrong_at o rs i
wrong_take o n rs zero h = rw (get_or-take n rs zero (range 0 0) h)
wrong_take o n rs (suc i) h = rw (get_or-take n rs (suc i) (range 0 0) h, get_or-take n rs i (range 0 0) (omega arith))

-- ---- a list without refusal

right_at : (o : Bool) (rs : List Range) → list_verdict o rs ≡ Fine → (i : ℕ) → i < length rs → wrong_at o rs i ≡ false
unfolding list_verdict
right_at o rs e i h = scan_fine _ (wrong_at o rs) (length rs) e i h

upright_all : (rs : List Range) → ((i : ℕ) → i < length rs → reversed_at rs i ≡ false) → Upright rs
upright_all [] f = upright_none
upright_all (r ∷ rs) f = upright_cons r rs (ltb-false _ _ (f 0 (omega arith))) (upright_all rs (λ i h. f (suc i) (omega arith)))

-- in a list that need not be in order, no range is reversed
pub fine_upright : (o : Bool) (rs : List Range) → list_verdict o rs ≡ Fine → Upright rs
fine_upright o rs e = upright_all rs (λ i h. (or_neither _ _ (right_at o rs e i h)).0)

past_all : (x : ℕ) (r : Range) (rs : List Range) → x ≡ r.end → ((i : ℕ) → i < length (r ∷ rs) → wrong_at true (r ∷ rs) i ≡ false) → Past x rs
past_all x r [] e f = tt
past_all x r (s ∷ rs) e f =
    let p = or_neither _ _ (f 1 (omega arith)) in
    let a : r.end < s.start = leb-false _ _ p.1 in
    let b : s.start ≤ s.end = ltb-false _ _ p.0 in
    (omega arith, b, past_all s.end s rs refl (λ i h. next i h))
  where
    next : (i : ℕ) → i < length (s ∷ rs) → wrong_at true (s ∷ rs) i ≡ false
    next zero h = let q : reversed_at (s ∷ rs) 0 ≡ false = (or_neither _ _ (f 1 (omega arith))).0 in rw q
    next (suc i) h = f (suc (suc i)) (omega arith)

-- in one that is to be, it is in order and apart
pub fine_apart : (rs : List Range) → list_verdict true rs ≡ Fine → Apart rs
fine_apart [] e = tt
fine_apart (r ∷ rs) e =
    let a : r.start ≤ r.end = ltb-false _ _ (or_neither _ _ (right_at true (r ∷ rs) e 0 (omega arith))).0 in
    (a, past_all r.end r rs refl (right_at true (r ∷ rs) e))

-- ---- the same as a test

pub faulty_at : (rs : List Range) (i : ℕ) → i < length rs → wrong_at true rs i ≡ true → faulty rs ≡ true
faulty_at rs i h e = go (list_verdict true rs) refl
  where
    go : (v : Verdict) → list_verdict true rs ≡ v → refuses v ≡ true
    go Fine f = absurd (true≢false (sym e ∙ right_at true rs f i h))
    go (Err e) f = refl

pub faulty_none : (rs : List Range) → ((i : ℕ) → i < length rs → wrong_at true rs i ≡ false) → faulty rs ≡ false
unfolding list_verdict
faulty_none rs f = ap refuses (scan_all Want (wrong_at true rs) (length rs) f)

pub faulty_apart : (rs : List Range) → faulty rs ≡ false → Apart rs
faulty_apart rs e = go (list_verdict true rs) refl
  where
    go : (v : Verdict) → list_verdict true rs ≡ v → Apart rs
    go Fine f = fine_apart rs f
    go (Err x) f = absurd (true≢false (sym (ap refuses f) ∙ e))
