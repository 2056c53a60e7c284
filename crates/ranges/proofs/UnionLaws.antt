-- The one pass of `union` over two lists: the ranges up to i and j are taken up, and the rest comes in the order of a sort.
use mathlib.Core.Path.{◌≡◌, refl, sym, ap, ◌∙◌}
use mathlib.Core.Logic.{◌⊎◌, inl, inr}
use mathlib.Core.Bool.{Bool, true, false, cond, true≢false, false≢true}
use mathlib.Core.List.{List, [], ◌∷◌, ◌++◌, nil≢cons, head-eq_of_cons-eq}
use Prim.Native.Nat.{ℕ, ◌+◌, ◌/◌, ◌%◌, ◌^◌, ◌≤◌, ◌<◌}
use native.Mathlib.Omega.{arith}
use lib.ListN.{length, take, drop, drop_of_length-le}
use lib.Dec.{leb, eqb}
use borrow.Author.Tests.{leb-true, leb-false, le-leb, lt-leb, lt-ltb, le-ltb, eq-eqb, ne_eqb}
use Rattle.words.proofs.Points.{cut}
use Rattle.ranges.specs.declared.Range.{Range}
use Rattle.ranges.specs.Points.{range, Apart, range_at}
use Rattle.ranges.specs.Merged.{not_after, sort, union}
use Rattle.ranges.specs.Inner.{Listing, TakenUp, one_first}
use Rattle.ranges.proofs.FormLaws.{View}
use Rattle.ranges.proofs.WordLaws.{word_order}
use Rattle.ranges.proofs.SortLaws.{Le, not_after_lem, total}
use Rattle.ranges.proofs.TakeLaws.{onto, onto_start, onto_none, onto_more, next_one, next_two}
use Rattle.ranges.proofs.SkipLaws.{apart_drop, apart_front, front}
use Rattle.ranges.proofs.ListingLaws.{listing_self, listing_then}

-- ---- what the test of the fronts says

module _ (rs ss : List Range) (i j : ℕ) where
  module _ (e : one_first rs ss i j ≡ true) where
    pub one_in : (i < length rs) ⊎ (j < length ss) → i < length rs
    one_in o = go (leb (length ss) j) refl (leb (length rs) i) refl e o
      where
        go : (t : Bool) → leb (length ss) j ≡ t → (u : Bool) → leb (length rs) i ≡ u → cond t true (cond u false (not_after (range_at rs i) (range_at ss j))) ≡ true
            → (i < length rs) ⊎ (j < length ss) → i < length rs
        go t p false q e o = leb-false _ _ q
        go true p true q e (inl h) = h
        go true p true q e (inr h) = let k : length ss ≤ j = leb-true _ _ p in absurd (omega arith)
        go false p true q e o = absurd (false≢true e)

    one_le : (s : Range) (ts : List Range) → drop j ss ≡ s ∷ ts → i < length rs → Le (range_at rs i) s
    one_le s ts d h = go (leb (length ss) j) refl e
      where
        go : (t : Bool) → leb (length ss) j ≡ t → cond t true (cond (leb (length rs) i) false (not_after (range_at rs i) (range_at ss j))) ≡ true → Le (range_at rs i) s
        go true p q = absurd (nil≢cons (sym (drop_of_length-le ss {i = j} (leb-true _ _ p)) ∙ d))
        go false p q =
            let k : j < length ss = leb-false _ _ p in
            let z : range_at ss j ≡ s = head-eq_of_cons-eq (sym (front ss j k) ∙ d) in
            rw (← z) (not_after_lem (range_at rs i) (range_at ss j) (rw (lt-leb (length rs) i h) at q))

  module _ (e : one_first rs ss i j ≡ false) where
    pub two_in : j < length ss
    two_in = go (leb (length ss) j) refl e
      where
        go : (t : Bool) → leb (length ss) j ≡ t → cond t true (cond (leb (length rs) i) false (not_after (range_at rs i) (range_at ss j))) ≡ false → j < length ss
        go true p q = absurd (true≢false q)
        go false p q = leb-false _ _ p

    two_le : (r : Range) (ts : List Range) → drop i rs ≡ r ∷ ts → Le (range_at ss j) r
    two_le r ts d = go (leb (length rs) i) refl (rw (lt-leb (length ss) j two_in) at e)
      where
        go : (u : Bool) → leb (length rs) i ≡ u → cond u false (not_after (range_at rs i) (range_at ss j)) ≡ false → Le (range_at ss j) r
        go true p q = absurd (nil≢cons (sym (drop_of_length-le rs {i = i} (leb-true _ _ p)) ∙ d))
        go false p q =
            let k : i < length rs = leb-false _ _ p in
            let z : range_at rs i ≡ r = head-eq_of_cons-eq (sym (front rs i k) ∙ d) in
            rw (← z) (total (range_at rs i) (range_at ss j) q)

-- ---- the loop

onto_none_sorted : (out : List Range) → onto out (sort []) ≡ out
unfolding sort
onto_none_sorted out = onto_none out

pub record Uniting (rs ss L₀ L : List Range) (i j k : ℕ) : Type 0 where
  pub one : Apart rs
  pub two : Apart ss
  pub i_le : i ≤ length rs
  pub j_le : j ≤ length ss
  pub k_le : k ≤ i + j
  pub room : length rs + length ss ≤ length L₀
  pub listing : Listing L₀ L k (take k L)
  pub result : onto (take k L) (sort (drop i rs ++ drop j ss)) ≡ union rs ss

pub unite_start : (rs ss L : List Range) → Apart rs → Apart ss → length rs + length ss ≤ length L → Uniting rs ss L L 0 0 0
unite_start rs ss L p q h = record {
  one = p;
  two = q;
  i_le = omega arith;
  j_le = omega arith;
  k_le = omega arith;
  room = h;
  listing = listing_self L 0 (omega arith);
  result = onto_start (rs ++ ss);
}

module _ {rs ss L₀ L : List Range} {i j k : ℕ} (u : Uniting rs ss L₀ L i j k) where
  -- the list after one range more
  module _ {M : List Range} {k' : ℕ} {r : Range} (t : TakenUp L M k k' r) where
    grown : Listing L₀ M k' (take k' M)
    grown = rw (← t.listing.is) at (listing_then u.listing t.listing t.least)

    goes_on : (rest : List Range) → sort (drop i rs ++ drop j ss) ≡ r ∷ rest → onto (take k' M) rest ≡ union rs ss
    goes_on rest e = ap (λ (l : List Range). onto l rest) t.listing.is ∙ sym (onto_more (take k L) r rest) ∙ ap (onto (take k L)) (sym e) ∙ u.result

  pub unite_one : {M : List Range} {k' : ℕ} → one_first rs ss i j ≡ true → i < length rs → TakenUp L M k k' (range_at rs i) → Uniting rs ss L₀ M (i + 1) j k'
  unite_one e h t = record {
    one = u.one;
    two = u.two;
    i_le = omega arith;
    j_le = u.j_le;
    k_le = let a = t.most in let b = u.k_le in omega arith;
    room = u.room;
    listing = grown t;
    result = goes_on t (sort (drop (i + 1) rs ++ drop j ss))
        (ap (λ (l : List Range). sort (l ++ drop j ss)) (front rs i h)
        ∙ next_one (range_at rs i) (drop (i + 1) rs) (drop j ss) (apart_front rs i u.one h) (apart_drop ss j u.two) (λ s ts d. one_le rs ss i j e s ts d h));
  }

  pub unite_two : {M : List Range} {k' : ℕ} → one_first rs ss i j ≡ false → TakenUp L M k k' (range_at ss j) → Uniting rs ss L₀ M i (j + 1) k'
  unite_two e t =
      let h = two_in rs ss i j e in
      record {
        one = u.one;
        two = u.two;
        i_le = u.i_le;
        j_le = omega arith;
        k_le = let a = t.most in let b = u.k_le in omega arith;
        room = u.room;
        listing = grown t;
        result = goes_on t (sort (drop i rs ++ drop (j + 1) ss))
            (ap (λ (l : List Range). sort (drop i rs ++ l)) (front ss j h)
            ∙ next_two (drop i rs) (range_at ss j) (drop (j + 1) ss) (apart_drop rs i u.one) (apart_front ss j u.two h) (two_le rs ss i j e));
      }

  pub unite_done : length rs ≤ i → length ss ≤ j → Listing L₀ L k (union rs ss)
  unite_done h l = rw (← all) at u.listing
    where
      all : union rs ss ≡ take k L
      all = sym u.result ∙ ap (λ (q : List Range). onto (take k L) (sort (q ++ drop j ss))) (drop_of_length-le rs {i = i} h)
          ∙ ap (λ (q : List Range). onto (take k L) (sort q)) (drop_of_length-le ss {i = j} l) ∙ onto_none_sorted (take k L)

-- ---- by what is read of the lists

module _ {rs ss : List Range} {n m : ℕ} {s e t f : ℕ → ℕ} (one : View rs n s e) (two : View ss m t f) {L₀ L : List Range} {i j k : ℕ} (u : Uniting rs ss L₀ L i j k) where
  pub read_one_in : one_first rs ss i j ≡ true → i + j < n + m → i < n
  read_one_in q o =
      let a = u.i_le in
      let b = u.j_le in
      let c = one.len in
      let d = two.len in
      rw one.len at (one_in rs ss i j q (cut (length rs) i (λ h. inr (omega arith)) (λ h. inl h)))

  pub read_two_in : one_first rs ss i j ≡ false → j < m
  read_two_in q = rw two.len at (two_in rs ss i j q)

  pub read_room : i + j < n + m → k < length L
  read_room o =
      let a = u.k_le in
      let b = u.room in
      let c = one.len in
      let d = two.len in
      let q = u.listing.len in
      omega arith

  pub read_one : {M : List Range} {k' : ℕ} → one_first rs ss i j ≡ true → i < n → TakenUp L M k k' (range (s i) (e i)) → Uniting rs ss L₀ M (i + 1) j k'
  read_one q h c = unite_one u q (rw one.len h) (rw (one.at i h) c)

  pub read_two : {M : List Range} {k' : ℕ} → one_first rs ss i j ≡ false → TakenUp L M k k' (range (t j) (f j)) → Uniting rs ss L₀ M i (j + 1) k'
  read_two q c = unite_two u q (rw (two.at j (read_two_in q)) c)

  pub read_done : n + m ≤ i + j → Listing L₀ L k (union rs ss)
  read_done h =
      let a = u.i_le in
      let b = u.j_le in
      let c = one.len in
      let d = two.len in
      unite_done u (omega arith) (omega arith)

-- whose front is next, by what is read
module _ {rs ss : List Range} {n m : ℕ} {s e t f : ℕ → ℕ} (one : View rs n s e) (two : View ss m t f) (i j : ℕ) where
  pub first_over : m ≤ j → true ≡ one_first rs ss i j
  first_over h = sym (simp (two.len, le-leb m j h))

  pub first_ended : j < m → n ≤ i → false ≡ one_first rs ss i j
  first_ended h l = sym (simp (two.len, one.len, lt-leb m j h, le-leb n i l))

  both_left : j < m → i < n → one_first rs ss i j ≡ not_after (range (s i) (e i)) (range (t j) (f j))
  both_left h l = simp (two.len, one.len, lt-leb m j h, lt-leb n i l, one.at i l, two.at j h)

  pub first_less : j < m → i < n → s i < t j → true ≡ one_first rs ss i j
  first_less h l k = sym (both_left h l ∙ simp (lt-ltb (s i) (t j) k))

  pub first_equal : j < m → i < n → s i ≡ t j → leb (e i) (f j) ≡ one_first rs ss i j
  first_equal h l k = sym (both_left h l ∙ simp (le-ltb (s i) (t j) (omega arith), eq-eqb (s i) (t j) k))

  pub first_more : j < m → i < n → t j ≤ s i → (s i ≡ t j → ⊥) → eqb (s i) (t j) ≡ one_first rs ss i j
  first_more h l k q = sym (both_left h l ∙ simp (le-ltb (s i) (t j) k, ne_eqb (s i) (t j) q))

  -- over words one comparison says it
  pub first_word : j < m → i < n → (x y : ℕ) → s i ≡ x / 2 ^ 32 → e i ≡ x % 2 ^ 32 → t j ≡ y / 2 ^ 32 → f j ≡ y % 2 ^ 32 → leb x y ≡ one_first rs ss i j
  first_word h l x y p q r u = word_order x y ∙ sym (both_left h l ∙ rw (p, q, r, u))
