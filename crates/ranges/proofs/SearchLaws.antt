-- The clash test by what is read of the lists: what is read at the two places, and what `ending_before` counts.
use mathlib.Core.Path.{◌≡◌, sym, ◌∙◌}
use mathlib.Core.Bool.{true, false, true≢false}
use mathlib.Core.List.{List}
use Prim.Native.Nat.{ℕ, zero, suc, ◌+◌, ◌-◌, ◌≤◌, ◌<◌}
use native.Mathlib.Omega.{arith}
use lib.Dec.{ltb}
use borrow.Author.Tests.{le-leb, lt-ltb, ltb-true}
use Rattle.words.specs.Inner.{Rising, Splits}
use Rattle.words.proofs.Points.{cut}
use Rattle.ranges.specs.declared.Range.{Range}
use Rattle.ranges.specs.Points.{range, overlaps, Apart}
use Rattle.ranges.specs.Merged.{clashes}
use Rattle.ranges.proofs.FormLaws.{View, start_view, end_view}
use Rattle.ranges.proofs.SkipLaws.{Searching, apart_at, ends_rise, skip_one, skip_two, search_hit, search_end_one, search_end_two}

-- two upright ranges that do not overlap, of which the first ends first: it ends before the other starts
pub ends_first : (s e t f : ℕ) → s ≤ e → e < f → overlaps (range s e) (range t f) ≡ false → e < t
ends_first s e t f h l o =
    cut t e (λ k. absurd (true≢false (sym (simp (le-leb s f (omega arith), le-leb t e k)) ∙ o))) (λ k. k)

pub ends_last : (s e t f : ℕ) → t ≤ f → f ≤ e → overlaps (range s e) (range t f) ≡ false → f < s
ends_last s e t f h l o =
    cut s f (λ k. absurd (true≢false (sym (simp (le-leb s f k, le-leb t e (omega arith))) ∙ o))) (λ k. k)

-- the ends of a list that is in order and apart rise, from any place on
pub ends_rising : {rs : List Range} {n : ℕ} {s e : ℕ → ℕ} → View rs n s e → Apart rs → (i : ℕ) → Rising (λ k. e (i + k)) (n - i)
ends_rising {rs} v p i k l =
    let a = v.len in
    let b = ends_rise rs (i + k) (i + (k + 1)) p (omega arith) (omega arith) in
    let c = end_view v (i + k) (omega arith) in
    let d = end_view v (i + (k + 1)) (omega arith) in
    omega arith

-- a count of what is below a point is positive where the first is
pub splits_some : (f : ℕ → ℕ) (point n r : ℕ) → Splits (λ k. ltb (f k) point) n r → 0 < n → f 0 < point → 0 < r
splits_some f point n zero s h l = absurd (true≢false (sym (lt-ltb (f 0) point l) ∙ s.fails 0 (omega arith) h))
splits_some f point n (suc r) s h l = omega arith

module _ {rs ss : List Range} {n m : ℕ} {s e t f : ℕ → ℕ} (one : View rs n s e) (two : View ss m t f) {i j : ℕ} (v : Searching rs ss i j) where
  pub one_upright : i < n → s i ≤ e i
  one_upright h =
      let a = one.len in
      let b = apart_at rs i v.one (omega arith) in
      let c = start_view one i h in
      let d = end_view one i h in
      omega arith

  pub two_upright : j < m → t j ≤ f j
  two_upright h =
      let a = two.len in
      let b = apart_at ss j v.two (omega arith) in
      let c = start_view two j h in
      let d = end_view two j h in
      omega arith

  pub hit : i < n → j < m → overlaps (range (s i) (e i)) (range (t j) (f j)) ≡ true → true ≡ clashes rs ss
  hit h k o = sym (search_hit v (rw one.len h) (rw two.len k) (rw (one.at i h, two.at j k) o))

  pub skip_to_one : (r : ℕ) → i ≤ n → j < m → Splits (λ k. ltb (e (i + k)) (t j)) (n - i) r → Searching rs ss (i + r) j
  skip_to_one r h l c =
      let w = c.within in
      skip_one v r (rw one.len (omega arith)) (rw two.len l) (λ k q. rw (one.at (i + k) (omega arith), two.at j l) (ltb-true _ _ (c.holds k q)))

  pub skip_to_two : (r : ℕ) → j ≤ m → i < n → Splits (λ k. ltb (f (j + k)) (s i)) (m - j) r → Searching rs ss i (j + r)
  skip_to_two r h l c =
      let w = c.within in
      skip_two v r (rw two.len (omega arith)) (rw one.len l) (λ k q. rw (two.at (j + k) (omega arith), one.at i l) (ltb-true _ _ (c.holds k q)))

  pub over_one : n ≤ i → false ≡ clashes rs ss
  over_one h = sym (search_end_one v (rw one.len h))

  pub over_two : m ≤ j → false ≡ clashes rs ss
  over_two h = sym (search_end_two v (rw two.len h))
