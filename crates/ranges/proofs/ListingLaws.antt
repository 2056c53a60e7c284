-- An answer list that is written in order: one range appended, or the last one's end raised. The list may stand in columns or in words.
use mathlib.Core.Path.{◌≡◌, refl, sym, ap, ◌∙◌}
use mathlib.Core.List.{List, [], ◌∷◌, ◌++◌}
use Prim.Native.Nat.{ℕ, suc, ◌+◌, ◌-◌, ◌≤◌, ◌<◌, max}
use native.Mathlib.Omega.{arith}
use native.Mathlib.Numerals.{add-one}
use lib.ListN.{length, take, drop, set, length-set, take-append-drop}
use lib.Seq.{length-take-le, take-suc-set, take-set-lt, drop-set-lt, drop-drop, set-get_or, get_or-take}
use Rattle.ranges.specs.declared.Range.{Range}
use Rattle.ranges.specs.Points.{range, range_at}
use Rattle.ranges.specs.Inner.{Listing, TakenUp}
use Rattle.ranges.proofs.TakeLaws.{taken_first, taken_wider, taken_next}

drop_more : (k n : ℕ) (L M : List Range) → k ≤ n → drop k L ≡ drop k M → drop n L ≡ drop n M
drop_more k n L M h e = let z : k + (n - k) ≡ n = omega arith in rw (← z) (sym (drop-drop (n - k) k L) ∙ ap (drop (n - k)) e ∙ drop-drop (n - k) k M)

pub listing_self : (L : List Range) (k : ℕ) → k ≤ length L → Listing L L k (take k L)
listing_self L k h = record { len = refl; room = h; is = refl; past = refl }

module _ {L₀ L : List Range} {k : ℕ} {rs : List Range} (w : Listing L₀ L k rs) where
  pub listing_length : length rs ≡ k
  listing_length = ap length (sym w.is) ∙ length-take-le k L (let a = w.len in let b = w.room in omega arith)

  pub listing_at : (m : ℕ) → m < k → range_at rs m ≡ range_at L m
  listing_at m l = ap (λ (q : List Range). range_at q m) (sym w.is) ∙ get_or-take k L m (range 0 0) l

  -- the whole list
  pub listing_all : L ≡ rs ++ drop k L₀
  listing_all = sym (take-append-drop k L) ∙ ap (λ (l : List Range). l ++ drop k L) w.is ∙ ap (λ (l : List Range). rs ++ l) w.past

  pub listing_push : (r : Range) → k < length L₀ → Listing L₀ (set L k r) (k + 1) (rs ++ (r ∷ []))
  listing_push r h =
      let a = w.len in
      record {
        len = simp length-set a;
        room = omega arith;
        is = ap (λ (n : ℕ). take n (set L k r)) (add-one k) ∙ take-suc-set L k r (omega arith) ∙ ap (λ (l : List Range). l ++ (r ∷ [])) w.is;
        past = drop-set-lt (k + 1) L k r (omega arith) ∙ drop_more k (k + 1) L L₀ (omega arith) w.past;
      }

  pub listing_raise : (m : ℕ) (r : Range) → k ≡ suc m → Listing L₀ (set L m r) k (set rs m r)
  listing_raise m r h = record {
    len = simp length-set w.len;
    room = w.room;
    is = take-set-lt k L m r (omega arith) ∙ ap (λ (l : List Range). set l m r) w.is;
    past = drop-set-lt k L m r (omega arith) ∙ w.past;
  }

  -- a list that goes on from there
  pub listing_then : {M : List Range} {n : ℕ} {qs : List Range} → Listing L M n qs → k ≤ n → Listing L₀ M n qs
  listing_then {M} {n} v h = record {
    len = v.len ∙ w.len;
    room = let a = w.len in let b = v.room in omega arith;
    is = v.is;
    past = v.past ∙ drop_more k n L L₀ h w.past;
  }

-- ---- one range taken up

module _ (L : List Range) (k : ℕ) (room : k < length L) (s e : ℕ) where
  self : Listing L L k (take k L)
  self = listing_self L k (omega arith)

  pub up_first : k ≡ 0 → TakenUp L (set L k (range s e)) k (k + 1) (range s e)
  up_first h = record {
    listing = rw (taken_first (take k L) (range s e) (listing_length self ∙ h)) (listing_push self (range s e) room);
    least = omega arith;
    most = omega arith;
  }

  module _ (m : ℕ) (h : k ≡ suc m) where
    last_at : range_at (take k L) m ≡ range_at L m
    last_at = listing_at self m (omega arith)

    pub up_next : (range_at L m).end + 1 < s → TakenUp L (set L k (range s e)) k (k + 1) (range s e)
    up_next l = record {
      listing = rw (taken_next (take k L) (range s e) m (listing_length self ∙ h) (rw last_at l)) (listing_push self (range s e) room);
      least = omega arith;
      most = omega arith;
    }

    pub up_wider : s ≤ (range_at L m).end + 1 → (range_at L m).end < e → TakenUp L (set L m (range (range_at L m).start e)) k k (range s e)
    up_wider l g = record {
      listing =
          rw (taken_wider (take k L) (range s e) m (listing_length self ∙ h) (rw last_at l), last_at)
          (let z : max (range_at L m).end e ≡ e = omega arith in rw z (listing_raise self m (range (range_at L m).start e) h));
      least = omega arith;
      most = omega arith;
    }

    pub up_kept : s ≤ (range_at L m).end + 1 → e ≤ (range_at L m).end → TakenUp L L k k (range s e)
    up_kept l g = record {
      listing =
          rw (taken_wider (take k L) (range s e) m (listing_length self ∙ h) (rw last_at l), last_at)
          (let z : max (range_at L m).end e ≡ (range_at L m).end = omega arith in
          rw (z, ← last_at, set-get_or (take k L) m (range 0 0)) self);
      least = omega arith;
      most = omega arith;
    }
