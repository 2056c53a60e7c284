-- The columns of a list of ranges, filled one number at a time.
use mathlib.Core.Path.{◌≡◌, refl, sym, ap, ◌∙◌, subst}
use mathlib.Core.Bool.{Bool, true, false, ◌||◌}
use mathlib.Core.List.{List, [], ◌∷◌, map}
use Prim.Native.Nat.{ℕ, suc, ◌+◌, ◌≤◌, ◌<◌}
use native.Mathlib.Omega.{arith}
use native.Mathlib.Nat.{min-eq_left}
use lib.ListN.{length, get_or, set, take, length-map}
use borrow.Author.Tests.{lt-ltb, le-ltb, eq-eqb}
use Rattle.words.proofs.Points.{stored, cut}
use Rattle.words.proofs.Bools.{or_right, or_left}
use Rattle.refusals.specs.declared.Refusal.TheVariants.{Count}
use Rattle.refusals.specs.Verdicts.{in_order, check, Verdict}
use Rattle.refusals.specs.Outcomes.{Outcome, refused, unless}
use Rattle.ranges.specs.declared.Range.{Range}
use Rattle.ranges.specs.Points.{range_at}
use Rattle.ranges.specs.Forms.{starts, ends, columns}
use Rattle.ranges.specs.Merged.{clashes}
use Rattle.ranges.proofs.FormLaws.{columns_again}
use Rattle.range_checks.specs.Verdicts.{bad_list, pair_verdict}
use Rattle.range_checks.proofs.VerdictLaws.{entry_count}
use Rattle.range_entries.specs.Entries.{clashes_of as columnsClash}
use Rattle.range_forms.specs.Lent.{over_limit, clashes_of}
use Rattle.range_forms.specs.Inner.{point_of, Filled, Column, clashes_over, clashes_within}

module _ (t : Bool) (rs : List Range) (c : List ℕ) where
  pub filled_none : Filled t rs c 0
  unfolding Filled
  filled_none i l = absurd (omega arith)

  pub filled_more : (i p : ℕ) → Filled t rs c i → i < length c → p ≡ point_of t (range_at rs i) → Filled t rs (set c i p) (i + 1)
  unfolding Filled
  filled_more i p f l e j lt = stored (λ y. y ≡ point_of t (range_at rs j)) c i p j l (λ same. e ∙ ap (λ (k : ℕ). point_of t (range_at rs k)) (sym same)) (λ other. f j (omega arith))

-- ---- the test over columns

module _ (k : ℕ) (s e : List ℕ) (n : ℕ) (t f : List ℕ) (m : ℕ) where
  pub over_first : k < n → refused 1 0 ≡ clashes_over k s e n t f m
  unfolding clashes_over
  over_first h = sym (rw (lt-ltb k n h))

  pub over_second : n ≤ k → k < m → refused 1 0 ≡ clashes_over k s e n t f m
  unfolding clashes_over
  over_second h l = sym (rw (le-ltb k n h, lt-ltb k m l))

  pub over_fine : n ≤ k → m ≤ k → columnsClash (take n s) (take n e) (take m t) (take m f) ≡ clashes_over k s e n t f m
  unfolding clashes_over
  over_fine h l = sym (rw (le-ltb k n h, le-ltb k m l))

module _ (k : ℕ) (rs ss : List Range) where
  pub within_first : k < length rs → refused 1 0 ≡ clashes_within k rs ss
  unfolding clashes_within
  within_first h = sym (rw (lt-ltb k (length rs) h))

  pub within_second : length rs ≤ k → k < length ss → refused 1 0 ≡ clashes_within k rs ss
  unfolding clashes_within
  within_second h l = sym (rw (le-ltb k (length rs) h, lt-ltb k (length ss) l))

  pub within_both : length rs ≤ k → length ss ≤ k → clashes_within k rs ss ≡ clashes_of rs ss
  unfolding clashes_within
  within_both h l = rw (le-ltb k (length rs) h, le-ltb k (length ss) l)

-- a column whose numbers are those of the ranges
taken : (t : Bool) (rs : List Range) (c : List ℕ) → length rs ≤ length c → ((i : ℕ) → i < length rs → get_or c i 0 ≡ point_of t (range_at rs i)) → take (length rs) c ≡ map (point_of t) rs
taken t [] c l f = refl
taken t (r ∷ rs) [] l f = absurd (omega arith)
taken t (r ∷ rs) (x ∷ c) l f = ap (λ (y : ℕ). y ∷ take (length rs) c) (f 0 (omega arith)) ∙ ap (λ (k : List ℕ). point_of t r ∷ k) (taken t rs c (omega arith) (λ i h. f (suc i) (omega arith)))

column_is : (k : ℕ) (t : Bool) (rs : List Range) (c : List ℕ) → length c ≡ k → length rs ≤ k → Column k t rs c → take (length rs) c ≡ map (point_of t) rs
unfolding Filled
column_is k t rs c len l f = taken t rs c (omega arith) (λ i h. f i (subst (λ (j : ℕ). i < j) (sym (min-eq_left l)) h))

-- a list over the limit
counted_out : (c d : Bool) (v : Verdict) → c ≡ true → refused 1 0 ≡ unless (in_order (check Count c ∷ v ∷ [])) d
counted_out c d v h = ap (λ (w : Verdict). unless w d) (entry_count c (v ∷ []) h)

bad_list_lem : (rs : List Range) → bad_list (starts rs) (ends rs) ≡ over_limit rs
bad_list_lem rs = rw (length-map rs (λ (r : Range). r.start), length-map rs (λ (r : Range). r.end), eq-eqb (length rs) (length rs) refl)

module _ (rs ss : List Range) where
  abbrev one : List Range
  one = columns (starts rs) (ends rs)

  abbrev two : List Range
  two = columns (starts ss) (ends ss)

  abbrev answer : Bool → Bool → List Range → List Range → Outcome Bool
  answer x y r s = unless (in_order (check Count (x || y) ∷ pair_verdict true r s ∷ [])) (clashes r s)

  by_columns : columnsClash (starts rs) (ends rs) (starts ss) (ends ss) ≡ clashes_of rs ss
  unfolding clashes_of
  by_columns =
      ap (λ (x : Bool). answer x (bad_list (starts ss) (ends ss)) one two) (bad_list_lem rs) ∙ ap (λ (y : Bool). answer (over_limit rs) y one two) (bad_list_lem ss)
      ∙ ap (λ (r : List Range). answer (over_limit rs) (over_limit ss) r two) (columns_again rs) ∙ ap (λ (s : List Range). answer (over_limit rs) (over_limit ss) rs s) (columns_again ss)

  first_over : 65536 < length rs → refused 1 0 ≡ clashes_of rs ss
  unfolding clashes_of
  first_over h = counted_out (over_limit rs || over_limit ss) (clashes rs ss) (pair_verdict true rs ss) (or_left (over_limit rs) (over_limit ss) (lt-ltb 65536 (length rs) h))

  second_over : 65536 < length ss → refused 1 0 ≡ clashes_of rs ss
  unfolding clashes_of
  second_over h = counted_out (over_limit rs || over_limit ss) (clashes rs ss) (pair_verdict true rs ss) (or_right (over_limit rs) (over_limit ss) (lt-ltb 65536 (length ss) h))

  -- the limit's refusal is the entry's own
  pub within_limit : clashes_within 65536 rs ss ≡ clashes_of rs ss
  within_limit =
      cut (length rs) 65536
      (λ h. cut (length ss) 65536 (λ l. within_both 65536 rs ss h l) (λ l. sym (within_second 65536 rs ss h l) ∙ second_over l))
      (λ h. sym (within_first 65536 rs ss h) ∙ first_over h)

-- a column as long as the zeros that it was
pub column_of : (k n : ℕ) (t : Bool) (rs : List Range) (c : List ℕ) → n ≡ k → Column n t rs c → Column k t rs c
column_of k n t rs c e h = subst (λ (m : ℕ). Column m t rs c) e h

-- what is taken of a list into columns of k numbers
pub record Apart (k : ℕ) (rs : List Range) (s e : List ℕ) : Type 0 where
  pub starts_long : length s ≡ k
  pub ends_long : length e ≡ k
  pub in_starts : Column k false rs s
  pub in_ends : Column k true rs e

module _ (k : ℕ) (rs ss : List Range) (s e t f : List ℕ) (a : Apart k rs s e) (b : Apart k ss t f) where
  both_taken : length rs ≤ k → length ss ≤ k → columnsClash (take (length rs) s) (take (length rs) e) (take (length ss) t) (take (length ss) f) ≡ clashes_of rs ss
  both_taken h l =
      rw (column_is k false rs s a.starts_long h a.in_starts, column_is k true rs e a.ends_long h a.in_ends, column_is k false ss t b.starts_long l b.in_starts, column_is k true ss f b.ends_long l b.in_ends) (by_columns rs ss)

  pub over_lists : clashes_over k s e (length rs) t f (length ss) ≡ clashes_within k rs ss
  over_lists =
      cut (length rs) k
      (λ h. cut (length ss) k (λ l. sym (over_fine k s e (length rs) t f (length ss) h l) ∙ both_taken h l ∙ sym (within_both k rs ss h l)) (λ l. sym (over_second k s e (length rs) t f (length ss) h l) ∙ within_second k rs ss h l))
      (λ h. sym (over_first k s e (length rs) t f (length ss) h) ∙ within_first k rs ss h)
