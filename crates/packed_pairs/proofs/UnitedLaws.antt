-- `union` over words of one work space: the two lists stand outside the words that are written.
use mathlib.Core.Path.{◌≡◌, refl, ap, ◌∙◌}
use mathlib.Core.Logic.{inl, inr}
use mathlib.Core.Bool.{Bool, true, false}
use mathlib.Core.List.{List}
use Prim.Native.Nat.{ℕ, ◌+◌, ◌-◌, ◌/◌, ◌%◌, ◌^◌, ◌≤◌, ◌<◌}
use native.Mathlib.Omega.{arith}
use lib.ListN.{length, get_or, drop, length-drop}
use Rattle.words.specs.Inner.{part}
use Rattle.words.proofs.RegionLaws.{kept_part_list}
use Rattle.ranges.specs.Points.{Apart}
use Rattle.ranges.specs.Inner.{unpack, unpacked, one_first}
use Rattle.packed.specs.Inner.{TakenIn, Clear}
use Rattle.packed_pairs.specs.Inner.{UnitedIn}
use Rattle.ranges.proofs.FormLaws.{View, part_view, unpacked_length, map_take}
use Rattle.ranges.proofs.UnionLaws.{Uniting, unite_start, read_one_in, read_two_in, read_room, read_one, read_two, read_done}

-- the first k words from `to` on are written, of a list that was w₀
pub record UnitingIn (w₀ : List ℕ) (one n two m to : ℕ) (w : List ℕ) (i j k : ℕ) : Type 0 where
  pub one_in : one + n ≤ length w₀
  pub two_in : two + m ≤ length w₀
  pub one_clear : Clear one n to (n + m)
  pub two_clear : Clear two m to (n + m)
  pub room : to + (n + m) ≤ length w₀
  pub len : length w ≡ length w₀
  pub before : (x : ℕ) → x < to → get_or w x 0 ≡ get_or w₀ x 0
  pub after : (x : ℕ) → to + k ≤ x → get_or w x 0 ≡ get_or w₀ x 0
  pub uniting : Uniting (unpacked (part one n w₀)) (unpacked (part two m w₀)) (unpacked (drop to w₀)) (unpacked (drop to w)) i j k

module _ (w : List ℕ) (one n two m to : ℕ) (h : one + n ≤ length w) (l : two + m ≤ length w) (c : Clear one n to (n + m)) (d : Clear two m to (n + m)) (r : to + (n + m) ≤ length w) where
  pub united_start : Apart (unpacked (part one n w)) → Apart (unpacked (part two m w)) → UnitingIn w one n two m to w 0 0 0
  united_start p q = record {
    one_in = h;
    two_in = l;
    one_clear = c;
    two_clear = d;
    room = r;
    len = refl;
    before = λ x k. refl;
    after = λ x k. refl;
    uniting = unite_start _ _ (unpacked (drop to w)) p q
        (rw ((part_view w one n h).len, (part_view w two m l).len, unpacked_length (drop to w)) (simp length-drop (omega arith)));
  }

module _ {w₀ : List ℕ} {one n two m to : ℕ} {w : List ℕ} {i j k : ℕ} (u : UnitingIn w₀ one n two m to w i j k) where
  one_view : View (unpacked (part one n w₀)) n (λ q. get_or w₀ (one + q) 0 / 2 ^ 32) (λ q. get_or w₀ (one + q) 0 % 2 ^ 32)
  one_view = part_view w₀ one n u.one_in

  two_view : View (unpacked (part two m w₀)) m (λ q. get_or w₀ (two + q) 0 / 2 ^ 32) (λ q. get_or w₀ (two + q) 0 % 2 ^ 32)
  two_view = part_view w₀ two m u.two_in

  pub counts : (i ≤ n) × (j ≤ m)
  counts =
      let b = u.uniting.i_le in
      let c = u.uniting.j_le in
      let d = one_view.len in
      let e = two_view.len in
      (omega arith, omega arith)

  k_most : k ≤ n + m
  k_most =
      let a = u.uniting.k_le in
      let b = u.uniting.i_le in
      let c = u.uniting.j_le in
      let d = one_view.len in
      let e = two_view.len in
      omega arith

  -- outside the written words the list is as it was
  kept : (a b : ℕ) → Clear a b to (n + m) → (q : ℕ) → q < b → get_or w (a + q) 0 ≡ get_or w₀ (a + q) 0
  kept a b (inl h) q l = u.before (a + q) (omega arith)
  kept a b (inr h) q l = u.after (a + q) (let z = k_most in omega arith)

  pub one_word : i < n → get_or w (one + i) 0 ≡ get_or w₀ (one + i) 0
  one_word h = kept one n u.one_clear i h

  pub two_word : j < m → get_or w (two + j) 0 ≡ get_or w₀ (two + j) 0
  two_word h = kept two m u.two_clear j h

  abbrev next : Bool
  next = one_first (unpacked (part one n w₀)) (unpacked (part two m w₀)) i j

  part_kept : (a b : ℕ) → Clear a b to (n + m) → a + b ≤ length w₀ → part a b w ≡ part a b w₀
  part_kept a b c h = kept_part_list (record { same = λ x g l. let z : a + (x - a) ≡ x = omega arith in rw (← z) (kept a b c (x - a) (omega arith)) }) h u.len

  -- the test of the fronts is made on the list as it is now
  pub next_is : one_first (unpacked (part one n w)) (unpacked (part two m w)) i j ≡ next
  next_is =
      ap (λ (l : List ℕ). one_first (unpacked l) (unpacked (part two m w)) i j) (part_kept one n u.one_clear u.one_in)
      ∙ ap (λ (l : List ℕ). one_first (unpacked (part one n w₀)) (unpacked l) i j) (part_kept two m u.two_clear u.two_in)

  pub united_one_in : next ≡ true → i + j < n + m → i < n
  united_one_in e h = read_one_in one_view two_view u.uniting e h

  pub united_two_in : next ≡ false → j < m
  united_two_in e = read_two_in one_view two_view u.uniting e

  pub united_room : i + j < n + m → to + k < length w
  united_room h =
      let a = read_room one_view two_view u.uniting h in
      let b = unpacked_length (drop to w) in
      let c = length-drop to w in
      omega arith

  module _ {w' : List ℕ} {k' x : ℕ} (lw : length w' ≡ length w) (t : TakenIn w w' to k k' x) where
    goes_on : (i' j' : ℕ) → Uniting (unpacked (part one n w₀)) (unpacked (part two m w₀)) (unpacked (drop to w₀)) (unpacked (drop to w')) i' j' k' → UnitingIn w₀ one n two m to w' i' j' k'
    goes_on i' j' v = record {
      one_in = u.one_in;
      two_in = u.two_in;
      one_clear = u.one_clear;
      two_clear = u.two_clear;
      room = u.room;
      len = lw ∙ u.len;
      before = λ q l. t.before q l ∙ u.before q l;
      after = λ q l. t.after q l ∙ u.after q (let a = t.taken_up_lem.least in omega arith);
      uniting = v;
    }

    pub united_one : next ≡ true → i < n → x ≡ get_or w (one + i) 0 → UnitingIn w₀ one n two m to w' (i + 1) j k'
    united_one e h ex = goes_on (i + 1) j (read_one one_view two_view u.uniting e h (rw (ex, one_word h) at t.taken_up_lem))

    pub united_two : next ≡ false → x ≡ get_or w (two + j) 0 → UnitingIn w₀ one n two m to w' i (j + 1) k'
    united_two e ex = goes_on i (j + 1) (read_two one_view two_view u.uniting e (rw (ex, two_word (united_two_in e)) at t.taken_up_lem))

  pub united_done : n + m ≤ i + j → UnitedIn w₀ w one n two m to k
  united_done h = record {
    within = k_most;
    is = map_take unpack k (drop to w) ∙ (read_done one_view two_view u.uniting h).is;
    before = u.before;
    after = u.after;
  }
