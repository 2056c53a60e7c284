-- Words that hold a range each: their order is that of the ranges, so sorted words are sorted ranges.
use mathlib.Core.Path.{◌≡◌, refl, sym, ap, ◌∙◌}
use mathlib.Core.Logic.{inl, inr}
use mathlib.Core.Bool.{Bool, true, false}
use mathlib.Core.List.{List, [], ◌∷◌}
use Prim.Native.Nat.{ℕ, ◌+◌, ◌/◌, ◌^◌, ◌≤◌, ◌<◌}
use native.Mathlib.Omega.{arith}
use lib.ListN.{get_or, take, drop}
use lib.Seq.{get_or-drop}
use lib.Dec.{leb}
use borrow.Author.Tests.{le-leb, lt-leb}
use Rattle.words.specs.Sort.{sort_of, insert as insertNumber}
use Rattle.words.specs.Inner.{part}
use Rattle.words.proofs.Points.{cut}
use Rattle.words.proofs.SortLaws.{insert_le, insert_gt, insert_nil}
use Rattle.ranges.specs.declared.Range.{Range}
use Rattle.ranges.specs.Points.{range_at}
use Rattle.ranges.specs.Merged.{not_after, insert, sort}
use Rattle.ranges.specs.Inner.{unpack, unpacked}
use Rattle.ranges.proofs.FormLaws.{map_take, unpacked_at}
use Rattle.ranges.proofs.SortLaws.{Le, is_not_after, not_after_lem, insert_front, insert_later, insert_none}

-- ---- order

pub word_le : (x y : ℕ) → x ≤ y → not_after (unpack x) (unpack y) ≡ true
word_le x y h =
    is_not_after (unpack x) (unpack y) (cut (y / 2 ^ 32) (x / 2 ^ 32) (λ k. inr (omega arith, omega arith)) (λ k. inl k))

pub word_gt : (x y : ℕ) → y < x → not_after (unpack x) (unpack y) ≡ false
word_gt x y h = go (not_after (unpack x) (unpack y)) refl
  where
    never : Le (unpack x) (unpack y) → ⊥
    never (inl k) = omega arith
    never (inr (k, l)) = omega arith

    go : (t : Bool) → not_after (unpack x) (unpack y) ≡ t → not_after (unpack x) (unpack y) ≡ false
    go true e = absurd (never (not_after_lem (unpack x) (unpack y) e))
    go false e = e

-- the order of words is that of their ranges
pub word_order : (x y : ℕ) → leb x y ≡ not_after (unpack x) (unpack y)
word_order x y = cut x y (λ h. le-leb x y h ∙ sym (word_le x y h)) (λ h. lt-leb x y h ∙ sym (word_gt x y h))

unpacked_insert : (x : ℕ) (w : List ℕ) → unpacked (insertNumber x w) ≡ insert (unpack x) (unpacked w)
unpacked_insert x [] = ap unpacked (insert_nil x) ∙ sym (insert_none (unpack x))
unpacked_insert x (y ∷ w) =
    cut x y
    (λ h. ap unpacked (insert_le x y w h) ∙ sym (insert_front (unpack x) (unpack y) (unpacked w) (word_le x y h)))
    (λ h. ap unpacked (insert_gt x y w h) ∙ ap (λ (l : List Range). unpack y ∷ l) (unpacked_insert x w) ∙ sym (insert_later (unpack x) (unpack y) (unpacked w) (word_gt x y h)))

-- sorted words are sorted ranges
pub unpacked_sort : (w : List ℕ) → unpacked (sort_of w) ≡ sort (unpacked w)
unfolding sort sort_of
unpacked_sort [] = refl
unpacked_sort (x ∷ w) = unpacked_insert x (sort_of w) ∙ ap (insert (unpack x)) (unpacked_sort w)

-- ---- reading and storing, from `at` on

pub word_at : (w : List ℕ) (at m : ℕ) → range_at (unpacked (drop at w)) m ≡ unpack (get_or w (at + m) 0)
word_at w at m = unpacked_at (drop at w) m ∙ ap unpack (get_or-drop at w m 0)

pub part_unpacked : (w : List ℕ) (at n : ℕ) → unpacked (part at n w) ≡ take n (unpacked (drop at w))
part_unpacked w at n = map_take unpack n (drop at w)
