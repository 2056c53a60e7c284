-- The range functions over words of one work space: what a store does to the list, and joining sorted words in place.
use mathlib.Core.Path.{◌≡◌, refl, sym, ap, ◌∙◌}
use mathlib.Core.List.{List, [], ◌∷◌}
use Prim.Native.Nat.{ℕ, suc, ◌+◌, ◌-◌, ◌/◌, ◌%◌, ◌^◌, ◌≤◌, ◌<◌}
use native.Mathlib.Omega.{arith}
use lib.ListN.{length, get_or, take, drop, set, length-drop, length-take, drop_of_length-le}
use lib.Seq.{get_or-drop, get_or-take, drop-set-add, length-take-le}
use Rattle.words.specs.Sort.{sort_of}
use Rattle.words.specs.Inner.{Region, part}
use Rattle.words.proofs.Points.{stored}
use Rattle.words.proofs.RegionLaws.{part_is, length_part}
use Rattle.words.proofs.SortLaws.{length_sort}
use Rattle.ranges.specs.declared.Range.{Range}
use Rattle.ranges.specs.Points.{range, range_at}
use Rattle.ranges.specs.Inner.{pack, unpack, unpacked, Listing, TakenUp}
use Rattle.packed.specs.Inner.{TakenIn, MergedIn}
use Rattle.ranges.proofs.FormLaws.{map_set, unpacked_length, unpack_pack}
use Rattle.ranges.proofs.WordLaws.{unpacked_sort, word_at, part_unpacked}
use Rattle.ranges.proofs.TakeLaws.{onto, onto_start, onto_none, onto_more}
use Rattle.ranges.proofs.SkipLaws.{front}
use Rattle.ranges.proofs.ListingLaws.{listing_self, listing_then, up_first, up_next, up_wider, up_kept}

-- ---- storing, from `at` on

module _ (w : List ℕ) (at k : ℕ) (room : at + k < length w) (x : ℕ) where
  abbrev L : List Range
  L = unpacked (drop at w)

  fits : k < length L
  fits = rw (unpacked_length (drop at w)) (simp length-drop (omega arith))

  pushed : unpacked (drop at (set w (at + k) x)) ≡ set L k (unpack x)
  pushed = ap unpacked (drop-set-add at w k x) ∙ map_set unpack (drop at w) k x

  -- a store in the first k + 1 words from `at` on leaves the others
  kept_before : (j v i : ℕ) → at ≤ j → j < length w → i < at → get_or (set w j v) i 0 ≡ get_or w i 0
  kept_before j v i h l q = stored (λ y. y ≡ get_or w i 0) w j v i l (λ e. absurd (omega arith)) (λ e. refl)

  kept_after : (j v i : ℕ) → j < length w → j < i → get_or (set w j v) i 0 ≡ get_or w i 0
  kept_after j v i l q = stored (λ y. y ≡ get_or w i 0) w j v i l (λ e. absurd (omega arith)) (λ e. refl)

  append : TakenUp L (set L k (unpack x)) k (k + 1) (unpack x) → TakenIn w (set w (at + k) x) at k (k + 1) x
  append t = record {
    taken_up_lem = rw pushed t;
    before = λ i h. kept_before (at + k) x i (omega arith) room h;
    after = λ i h. kept_after (at + k) x i room (omega arith);
  }

  pub put_first : k ≡ 0 → TakenIn w (set w (at + k) x) at k (k + 1) x
  put_first h = append (up_first L k fits (x / 2 ^ 32) (x % 2 ^ 32) h)

  module _ (some : 0 < k) where
    m_is : k ≡ suc (k - 1)
    m_is = omega arith

    place : at + k - 1 ≡ at + (k - 1)
    place = omega arith

    last_is : range_at L (k - 1) ≡ unpack (get_or w (at + k - 1) 0)
    last_is = word_at w at (k - 1) ∙ ap (λ (i : ℕ). unpack (get_or w i 0)) (sym place)

    pub put_next : get_or w (at + k - 1) 0 % 2 ^ 32 + 1 < x / 2 ^ 32 → TakenIn w (set w (at + k) x) at k (k + 1) x
    put_next h = append (up_next L k fits (x / 2 ^ 32) (x % 2 ^ 32) (k - 1) m_is (rw last_is h))

    pub put_wider : x / 2 ^ 32 ≤ get_or w (at + k - 1) 0 % 2 ^ 32 + 1 → get_or w (at + k - 1) 0 % 2 ^ 32 < x % 2 ^ 32
        → TakenIn w (set w (at + k - 1) (pack (range (get_or w (at + k - 1) 0 / 2 ^ 32) (x % 2 ^ 32)))) at k k x
    put_wider h l = record {
      taken_up_lem = rw raised (up_wider L k fits (x / 2 ^ 32) (x % 2 ^ 32) (k - 1) m_is (rw last_is h) (rw last_is l));
      before = λ i q. kept_before (at + k - 1) (pack wide) i (omega arith) (omega arith) q;
      after = λ i q. kept_after (at + k - 1) (pack wide) i (omega arith) (omega arith);
    }
      where
        wide : Range
        wide = range (get_or w (at + k - 1) 0 / 2 ^ 32) (x % 2 ^ 32)

        raised : unpacked (drop at (set w (at + k - 1) (pack wide))) ≡ set L (k - 1) (range (range_at L (k - 1)).start (x % 2 ^ 32))
        raised =
            ap (λ (i : ℕ). unpacked (drop at (set w i (pack wide)))) place
            ∙ ap unpacked (drop-set-add at w (k - 1) (pack wide)) ∙ map_set unpack (drop at w) (k - 1) (pack wide)
            ∙ ap (set L (k - 1)) (unpack_pack (get_or w (at + k - 1) 0 / 2 ^ 32) (x % 2 ^ 32) (omega arith))
            ∙ ap (λ (r : Range). set L (k - 1) (range r.start (x % 2 ^ 32))) (sym last_is)

    pub put_kept : x / 2 ^ 32 ≤ get_or w (at + k - 1) 0 % 2 ^ 32 + 1 → x % 2 ^ 32 ≤ get_or w (at + k - 1) 0 % 2 ^ 32 → TakenIn w w at k k x
    put_kept h l = record {
      taken_up_lem = up_kept L k fits (x / 2 ^ 32) (x % 2 ^ 32) (k - 1) m_is (rw last_is h) (rw last_is l);
      before = λ i q. refl;
      after = λ i q. refl;
    }

-- ---- joining sorted words in place: the first k hold what was taken up of the first i

pub record Joining (w₁ w : List ℕ) (at n i k : ℕ) : Type 0 where
  pub room : at + n ≤ length w₁
  pub len : length w ≡ length w₁
  pub i_le : i ≤ n
  pub k_le : k ≤ i
  pub listing : Listing (unpacked (drop at w₁)) (unpacked (drop at w)) k (take k (unpacked (drop at w)))
  pub result : onto (take k (unpacked (drop at w))) (drop i (take n (unpacked (drop at w₁)))) ≡ onto [] (take n (unpacked (drop at w₁)))
  pub before : (j : ℕ) → j < at → get_or w j 0 ≡ get_or w₁ j 0
  pub after : (j : ℕ) → at + n ≤ j → get_or w j 0 ≡ get_or w₁ j 0

pub join_start : (w : List ℕ) (at n : ℕ) → at + n ≤ length w → Joining w w at n 0 0
join_start w at n h = record {
  room = h;
  len = refl;
  i_le = omega arith;
  k_le = omega arith;
  listing = listing_self (unpacked (drop at w)) 0 (omega arith);
  result = refl;
  before = λ j l. refl;
  after = λ j l. refl;
}

module _ {w₁ w : List ℕ} {at n i k : ℕ} (j : Joining w₁ w at n i k) where
  pub join_more : {w' : List ℕ} {k' : ℕ} (x : ℕ) → i < n → x ≡ get_or w (at + i) 0 → length w' ≡ length w → TakenIn w w' at k k' x → Joining w₁ w' at n (i + 1) k'
  join_more {w'} {k'} x h ex lw t =
      let a = j.k_le in
      let b = t.taken_up_lem.most in
      record {
        room = j.room;
        len = lw ∙ j.len;
        i_le = omega arith;
        k_le = omega arith;
        listing = rw (← t.taken_up_lem.listing.is) at (listing_then j.listing t.taken_up_lem.listing t.taken_up_lem.least);
        result = ap (λ (l : List Range). onto l (drop (i + 1) L₁)) t.taken_up_lem.listing.is ∙ sym (onto_more (take k L) (unpack x) (drop (i + 1) L₁))
            ∙ ap (λ (r : Range). onto (take k L) (r ∷ drop (i + 1) L₁)) same ∙ ap (onto (take k L)) (sym (front L₁ i long)) ∙ j.result;
        before = λ q l. t.before q l ∙ j.before q l;
        after = λ q l. t.after q (omega arith) ∙ j.after q l;
      }
    where
      L : List Range
      L = unpacked (drop at w)

      L₁ : List Range
      L₁ = take n (unpacked (drop at w₁))

      whole : length (unpacked (drop at w₁)) ≡ length w₁ - at
      whole = unpacked_length (drop at w₁) ∙ length-drop at w₁

      long : i < length L₁
      long = let a = j.room in rw (length-take-le n (unpacked (drop at w₁)) (rw whole (omega arith))) h

      unwritten : range_at (unpacked (drop at w)) i ≡ range_at (unpacked (drop at w₁)) i
      unwritten =
          let z : k + (i - k) ≡ i = (let a = j.k_le in omega arith) in
          rw (← z) (sym (get_or-drop k (unpacked (drop at w)) (i - k) (range 0 0)) ∙ ap (λ (l : List Range). get_or l (i - k) (range 0 0)) j.listing.past
          ∙ get_or-drop k (unpacked (drop at w₁)) (i - k) (range 0 0))

      -- the next one has not been written over
      same : unpack x ≡ range_at L₁ i
      same =
          ap unpack ex ∙ sym (word_at w at i) ∙ unwritten ∙ sym (get_or-take n (unpacked (drop at w₁)) i (range 0 0) h)

  pub join_done : (w₀ : List ℕ) → at + n ≤ length w₀ → Region w₀ w₁ at n (λ q. get_or (sort_of (part at n w₀)) q 0) → n ≤ i → MergedIn w₀ w at n k
  join_done w₀ l r h =
      let a = j.i_le in
      let b = j.k_le in
      record {
        within = omega arith;
        is = part_unpacked w at k ∙ sym (onto_none (take k (unpacked (drop at w)))) ∙ ap (onto (take k (unpacked (drop at w)))) (sym none) ∙ j.result
            ∙ ap (onto []) (sym (part_unpacked w₁ at n) ∙ ap unpacked sorted ∙ unpacked_sort (part at n w₀)) ∙ onto_start (unpacked (part at n w₀));
        before = λ q l. j.before q l ∙ r.before q l;
        after = λ q l. j.after q l ∙ r.after q l;
      }
    where
      none : drop i (take n (unpacked (drop at w₁))) ≡ []
      none = let a = j.i_le in drop_of_length-le (take n (unpacked (drop at w₁))) {i = i} (simp length-take (omega arith))

      sorted : part at n w₁ ≡ sort_of (part at n w₀)
      sorted = let e = r.len in part_is at n w₁ (sort_of (part at n w₀)) (omega arith) (length_sort (part at n w₀) ∙ length_part at n w₀ l) (λ q m. r.inside (at + q) q refl m)
