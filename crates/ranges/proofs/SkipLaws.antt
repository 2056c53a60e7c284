-- The clash test skips ranges that end before the other list's front starts: that changes nothing.
use mathlib.Core.Path.{◌≡◌, refl, sym, ap, ◌∙◌, subst}
use mathlib.Core.Logic.{◌⊎◌, inl, inr}
use mathlib.Core.Bool.{Bool, true, false, ◌||◌, and_comm}
use mathlib.Core.List.Memᴰ
use mathlib.Core.List.{List, [], ◌∷◌, Memᴰ}
use Prim.Native.Nat.{ℕ, zero, suc, ◌+◌, ◌≤◌, ◌<◌}
use native.Mathlib.Omega.{arith}
use native.Mathlib.Numerals.{add-one}
use lib.ListN.{length, drop, drop_of_length-le}
use lib.Seq.{drop-cons, drop-drop, get_or-drop}
use native.Mathlib.Decide.{ℕ_discrete}
use lib.Dec.{leb}
use borrow.Author.Tests.{lt-leb}
use Rattle.ranges.specs.declared.Range.{Range}
use Rattle.ranges.specs.Points.{range, overlaps, Past, Apart, range_at}
use Rattle.ranges.specs.Merged.{meets, clashes}
use Rattle.ranges.proofs.PointLaws.{apart_tail}

-- ---- lists in order and apart, from a place on

pub apart_drop : (rs : List Range) (i : ℕ) → Apart rs → Apart (drop i rs)
apart_drop rs zero p = p
apart_drop [] (suc i) p = p
apart_drop (r ∷ rs) (suc i) p = apart_drop rs i (apart_tail r rs p)

pub front : (rs : List Range) (i : ℕ) → i < length rs → drop i rs ≡ range_at rs i ∷ drop (i + 1) rs
front rs i h = drop-cons rs i (range 0 0) h ∙ ap (λ (n : ℕ). range_at rs i ∷ drop n rs) (sym (add-one i))

pub apart_front : (rs : List Range) (i : ℕ) → Apart rs → i < length rs → Apart (range_at rs i ∷ drop (i + 1) rs)
apart_front rs i p h = subst (λ (l : List Range). Apart l) (front rs i h) (apart_drop rs i p)

pub apart_at : (rs : List Range) (i : ℕ) → Apart rs → i < length rs → (range_at rs i).start ≤ (range_at rs i).end
apart_at [] i p h = absurd (omega arith)
apart_at (r ∷ rs) zero p h = p.0
apart_at (r ∷ rs) (suc i) p h = apart_at rs i (apart_tail r rs p) (omega arith)

past_at : (x : ℕ) (rs : List Range) (i : ℕ) → Past x rs → i < length rs → x < (range_at rs i).start
past_at x [] i p h = absurd (omega arith)
past_at x (r ∷ rs) zero p h = p.0
past_at x (r ∷ rs) (suc i) p h = let a = p.0 in let b = p.1 in let c = past_at r.end rs i p.2 (omega arith) in omega arith

-- each range starts past the end of every one before it
pub apart_order : (rs : List Range) (i j : ℕ) → Apart rs → i < j → j < length rs → (range_at rs i).end < (range_at rs j).start
apart_order [] i j p l h = absurd (omega arith)
apart_order (r ∷ rs) i zero p l h = absurd (omega arith)
apart_order (r ∷ rs) zero (suc j) p l h = past_at r.end rs j p.1 (omega arith)
apart_order (r ∷ rs) (suc i) (suc j) p l h = apart_order rs i j (apart_tail r rs p) (omega arith) (omega arith)

-- so the ends rise
pub ends_rise : (rs : List Range) (i j : ℕ) → Apart rs → i ≤ j → j < length rs → (range_at rs i).end ≤ (range_at rs j).end
ends_rise rs i zero p l h = let e : i ≡ 0 = omega arith in rw e (omega arith)
ends_rise rs i (suc j) p l h =
    elim (ℕ_discrete i (suc j)) [ yes e ↦ rw e (omega arith) | no n ↦ let a = apart_order rs i (suc j) p (omega arith) h in let b = apart_at rs (suc j) p h in omega arith ]

-- ---- skipping

From : ℕ → List Range → Type 0
From x ss = (q : Range) → Memᴰ q ss → x ≤ q.start

meets_before : (r : Range) (x : ℕ) (ss : List Range) → r.end < x → From x ss → meets r ss ≡ false
unfolding meets From
meets_before r x [] h f = refl
meets_before r x (s ∷ ss) h f =
    let k = f s (Memᴰ.head refl) in
    rw (lt-leb s.start r.end (omega arith), and_comm (leb r.start s.end) false) (meets_before r x ss h (λ q m. f q (Memᴰ.tail m)))

skip_front : (n : ℕ) (rs : List Range) (x : ℕ) (ss : List Range) → ((k : ℕ) → k < n → (range_at rs k).end < x) → From x ss → clashes rs ss ≡ clashes (drop n rs) ss
unfolding clashes
skip_front zero rs x ss h f = refl
skip_front (suc n) [] x ss h f = refl
skip_front (suc n) (r ∷ rs) x ss h f = rw (meets_before r x ss (h 0 (omega arith)) f) (skip_front n rs x ss (λ k l. h (suc k) (omega arith)) f)

clashes_none : (rs : List Range) → clashes rs [] ≡ false
unfolding clashes meets
clashes_none [] = refl
clashes_none (r ∷ rs) = clashes_none rs

overlaps_swap : (r s : Range) → overlaps r s ≡ overlaps s r
overlaps_swap r s = and_comm (leb r.start s.end) (leb s.start r.end)

or_swap : (a b c d : Bool) → (a || b) || (c || d) ≡ (a || c) || (b || d)
or_swap true b c d = refl
or_swap false true true d = refl
or_swap false true false d = refl
or_swap false false c d = refl

clashes_cons : (rs : List Range) (s : Range) (ss : List Range) → clashes rs (s ∷ ss) ≡ meets s rs || clashes rs ss
unfolding clashes meets
clashes_cons [] s ss = refl
clashes_cons (r ∷ rs) s ss =
    ap (λ (t : Bool). (overlaps r s || meets r ss) || t) (clashes_cons rs s ss)
    ∙ or_swap (overlaps r s) (meets r ss) (meets s rs) (clashes rs ss)
    ∙ ap (λ (t : Bool). (t || meets s rs) || (meets r ss || clashes rs ss)) (overlaps_swap r s)

pub clashes_swap : (rs ss : List Range) → clashes rs ss ≡ clashes ss rs
unfolding clashes
clashes_swap rs [] = clashes_none rs
clashes_swap rs (s ∷ ss) = clashes_cons rs s ss ∙ ap (λ (t : Bool). meets s rs || t) (clashes_swap rs ss)

-- ---- the test from two places on

pub record Searching (rs ss : List Range) (i j : ℕ) : Type 0 where
  pub one : Apart rs
  pub two : Apart ss
  pub i_le : i ≤ length rs
  pub j_le : j ≤ length ss
  pub same : clashes rs ss ≡ clashes (drop i rs) (drop j ss)

pub search_start : (rs ss : List Range) → Apart rs → Apart ss → Searching rs ss 0 0
search_start rs ss p q = record { one = p; two = q; i_le = omega arith; j_le = omega arith; same = refl }

from_front : (rs : List Range) (i : ℕ) → Apart rs → i < length rs → (q : Range) → Memᴰ q (drop i rs) → (range_at rs i).start ≤ q.start
from_front rs i p h q m = member_from (drop i rs) (apart_drop rs i p) (range_at rs i) (drop (i + 1) rs) (front rs i h) q m
  where
    later : (r : Range) (ts : List Range) → Apart (r ∷ ts) → (q : Range) → Memᴰ q ts → r.end < q.start
    later r [] p q m = absurd (Memᴰ.not-nil m)
    later r (t ∷ ts) p q m = go (Memᴰ.cases_cons m) (later t ts (apart_tail r (t ∷ ts) p) q)
      where
        go : (q ≡ t) ⊎ Memᴰ q ts → (Memᴰ q ts → t.end < q.start) → r.end < q.start
        go (inl e) ih = rw e p.1.0
        go (inr n) ih = let a = p.1.0 in let b = p.1.1 in let c = ih n in omega arith

    member_from : (l : List Range) → Apart l → (r : Range) (ts : List Range) → l ≡ r ∷ ts → (q : Range) → Memᴰ q l → r.start ≤ q.start
    member_from l p r ts e q m = go (Memᴰ.cases_cons (rw e at m))
      where
        go : (q ≡ r) ⊎ Memᴰ q ts → r.start ≤ q.start
        go (inl d) = rw d (omega arith)
        go (inr n) = let ap' = rw e at p in let a = later r ts ap' q n in let b = ap'.0 in omega arith

module _ {rs ss : List Range} {i j : ℕ} (v : Searching rs ss i j) where
  -- n ranges of the first list end before the second's front starts
  pub skip_one : (n : ℕ) → i + n ≤ length rs → j < length ss → ((k : ℕ) → k < n → (range_at rs (i + k)).end < (range_at ss j).start) → Searching rs ss (i + n) j
  unfolding From
  skip_one n l h f = record {
    one = v.one;
    two = v.two;
    i_le = l;
    j_le = v.j_le;
    same = v.same
        ∙ skip_front n (drop i rs) (range_at ss j).start (drop j ss) (λ k q. rw get_or-drop (f k q)) (from_front ss j v.two h)
        ∙ ap (λ (t : List Range). clashes t (drop j ss)) (drop-drop n i rs);
  }

  pub skip_two : (n : ℕ) → j + n ≤ length ss → i < length rs → ((k : ℕ) → k < n → (range_at ss (j + k)).end < (range_at rs i).start) → Searching rs ss i (j + n)
  unfolding From
  skip_two n l h f = record {
    one = v.one;
    two = v.two;
    i_le = v.i_le;
    j_le = l;
    same = v.same
        ∙ clashes_swap (drop i rs) (drop j ss)
        ∙ skip_front n (drop j ss) (range_at rs i).start (drop i rs) (λ k q. rw get_or-drop (f k q)) (from_front rs i v.one h)
        ∙ ap (λ (t : List Range). clashes t (drop i rs)) (drop-drop n j ss)
        ∙ clashes_swap (drop (j + n) ss) (drop i rs);
  }

  -- the fronts overlap
  pub search_hit : i < length rs → j < length ss → overlaps (range_at rs i) (range_at ss j) ≡ true → clashes rs ss ≡ true
  unfolding clashes meets
  search_hit h k e = v.same ∙ rw (front rs i h, front ss j k, e)

  -- one of the lists is at its end
  pub search_end_one : length rs ≤ i → clashes rs ss ≡ false
  unfolding clashes
  search_end_one h = v.same ∙ rw (drop_of_length-le rs {i = i} h)

  pub search_end_two : length ss ≤ j → clashes rs ss ≡ false
  search_end_two h = v.same ∙ rw (drop_of_length-le ss {i = j} h) (clashes_none (drop i rs))
