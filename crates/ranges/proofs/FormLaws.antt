-- Laws of a list of ranges in columns and in words: what is read, stored or cut there is so in the list.
use mathlib.Core.Path.{◌≡◌, refl, ap, ◌∙◌}
use mathlib.Core.List.{List, [], ◌∷◌, ◌++◌, map}
use Prim.Native.Nat.{ℕ, zero, suc, ◌+◌, ◌*◌, ◌/◌, ◌%◌, ◌^◌, ◌≤◌, ◌<◌}
use native.Mathlib.Omega.{arith}
use lib.ListN.{length, get_or, take, drop, set, length-map}
use Rattle.words.specs.Inner.{part}
use Rattle.words.proofs.RegionLaws.{length_part, get_d_part}
use Rattle.ranges.specs.declared.Range.{Range}
use Rattle.ranges.specs.Points.{range, range_at}
use Rattle.ranges.specs.Forms.{columns, starts, ends}
use Rattle.ranges.specs.Inner.{pack, unpack, unpacked}

-- ---- columns

pub columns_length : (ss es : List ℕ) → length ss ≡ length es → length (columns ss es) ≡ length ss
columns_length [] es h = refl
columns_length (s ∷ ss) [] h = absurd (omega arith)
columns_length (s ∷ ss) (e ∷ es) h = ap suc (columns_length ss es (omega arith))

pub columns_at : (ss es : List ℕ) (i : ℕ) → length ss ≡ length es → get_or (columns ss es) i (range 0 0) ≡ range (get_or ss i 0) (get_or es i 0)
columns_at [] [] i h = refl
columns_at [] (e ∷ es) i h = absurd (omega arith)
columns_at (s ∷ ss) [] i h = absurd (omega arith)
columns_at (s ∷ ss) (e ∷ es) zero h = refl
columns_at (s ∷ ss) (e ∷ es) (suc i) h = columns_at ss es i (omega arith)

pub start_at : (ss es : List ℕ) → length ss ≡ length es → (i : ℕ) → (range_at (columns ss es) i).start ≡ get_or ss i 0
start_at ss es h i = ap (λ (r : Range). r.start) (columns_at ss es i h)

pub end_at_lem : (ss es : List ℕ) → length ss ≡ length es → (i : ℕ) → (range_at (columns ss es) i).end ≡ get_or es i 0
end_at_lem ss es h i = ap (λ (r : Range). r.end) (columns_at ss es i h)

pub columns_take : (n : ℕ) (ss es : List ℕ) → columns (take n ss) (take n es) ≡ take n (columns ss es)
columns_take zero ss es = refl
columns_take (suc n) [] es = refl
columns_take (suc n) (s ∷ ss) [] = refl
columns_take (suc n) (s ∷ ss) (e ∷ es) = ap (λ (l : List Range). range s e ∷ l) (columns_take n ss es)

pub columns_drop : (n : ℕ) (ss es : List ℕ) → length ss ≡ length es → columns (drop n ss) (drop n es) ≡ drop n (columns ss es)
columns_drop zero ss es h = refl
columns_drop (suc n) [] es h = refl
columns_drop (suc n) (s ∷ ss) [] h = absurd (omega arith)
columns_drop (suc n) (s ∷ ss) (e ∷ es) h = columns_drop n ss es (omega arith)

pub columns_set : (ss es : List ℕ) (i s e : ℕ) → columns (set ss i s) (set es i e) ≡ set (columns ss es) i (range s e)
columns_set [] es i s e = refl
columns_set (x ∷ ss) [] zero s e = refl
columns_set (x ∷ ss) [] (suc i) s e = refl
columns_set (x ∷ ss) (y ∷ es) zero s e = refl
columns_set (x ∷ ss) (y ∷ es) (suc i) s e = ap (λ (l : List Range). range x y ∷ l) (columns_set ss es i s e)

pub columns_append : (ss es ts fs : List ℕ) → length ss ≡ length es → columns (ss ++ ts) (es ++ fs) ≡ columns ss es ++ columns ts fs
columns_append [] [] ts fs h = refl
columns_append [] (e ∷ es) ts fs h = absurd (omega arith)
columns_append (s ∷ ss) [] ts fs h = absurd (omega arith)
columns_append (s ∷ ss) (e ∷ es) ts fs h = ap (λ (l : List Range). range s e ∷ l) (columns_append ss es ts fs (omega arith))

pub starts_columns : (ss es : List ℕ) → length ss ≡ length es → starts (columns ss es) ≡ ss
starts_columns [] es h = refl
starts_columns (s ∷ ss) [] h = absurd (omega arith)
starts_columns (s ∷ ss) (e ∷ es) h = ap (λ (l : List ℕ). s ∷ l) (starts_columns ss es (omega arith))

pub ends_columns : (ss es : List ℕ) → length ss ≡ length es → ends (columns ss es) ≡ es
ends_columns [] [] h = refl
ends_columns [] (e ∷ es) h = absurd (omega arith)
ends_columns (s ∷ ss) [] h = absurd (omega arith)
ends_columns (s ∷ ss) (e ∷ es) h = ap (λ (l : List ℕ). e ∷ l) (ends_columns ss es (omega arith))

-- the columns of a list are the list
pub columns_again : (rs : List Range) → columns (starts rs) (ends rs) ≡ rs
columns_again [] = refl
columns_again (r ∷ rs) = ap (λ (l : List Range). r ∷ l) (columns_again rs)

-- ---- words, and any other form that maps each element

module _ {A B : Type 0} (f : A → B) where
  pub map_take : (n : ℕ) (l : List A) → map f (take n l) ≡ take n (map f l)
  map_take zero l = refl
  map_take (suc n) [] = refl
  map_take (suc n) (x ∷ l) = ap (λ (m : List B). f x ∷ m) (map_take n l)

  pub map_drop : (n : ℕ) (l : List A) → map f (drop n l) ≡ drop n (map f l)
  map_drop zero l = refl
  map_drop (suc n) [] = refl
  map_drop (suc n) (x ∷ l) = map_drop n l

  pub map_set : (l : List A) (i : ℕ) (x : A) → map f (set l i x) ≡ set (map f l) i (f x)
  map_set [] i x = refl
  map_set (y ∷ l) zero x = refl
  map_set (y ∷ l) (suc i) x = ap (λ (m : List B). f y ∷ m) (map_set l i x)

  pub map_append : (l m : List A) → map f (l ++ m) ≡ map f l ++ map f m
  map_append [] m = refl
  map_append (x ∷ l) m = ap (λ (k : List B). f x ∷ k) (map_append l m)

  pub map_at : (l : List A) (i : ℕ) (d : A) → get_or (map f l) i (f d) ≡ f (get_or l i d)
  map_at [] i d = refl
  map_at (x ∷ l) zero d = refl
  map_at (x ∷ l) (suc i) d = map_at l i d

pub unpacked_at : (w : List ℕ) (i : ℕ) → get_or (unpacked w) i (range 0 0) ≡ unpack (get_or w i 0)
unpacked_at w i = map_at unpack w i 0

pub unpacked_length : (w : List ℕ) → length (unpacked w) ≡ length w
unpacked_length w = length-map w unpack

-- a range of 32-bit points in a word, and back
pub unpack_pack : (s e : ℕ) → e < 2 ^ 32 → unpack (s * 2 ^ 32 + e) ≡ range s e
unpack_pack s e h =
    let a : (s * 2 ^ 32 + e) / 2 ^ 32 ≡ s = omega arith in
    let b : (s * 2 ^ 32 + e) % 2 ^ 32 ≡ e = omega arith in
    ap (λ (x : ℕ). range x ((s * 2 ^ 32 + e) % 2 ^ 32)) a ∙ ap (range s) b

pub pack_unpack : (x : ℕ) → pack (unpack x) ≡ x
pack_unpack x = omega arith

-- ---- a list by what is read of it

-- a list of n ranges whose range at i has the start s i and the end e i
pub record View (rs : List Range) (n : ℕ) (s e : ℕ → ℕ) : Type 0 where
  pub len : length rs ≡ n
  pub at : (i : ℕ) → i < n → range_at rs i ≡ range (s i) (e i)

pub column_view : (ss es : List ℕ) → length ss ≡ length es → View (columns ss es) (length ss) (λ i. get_or ss i 0) (λ i. get_or es i 0)
column_view ss es h = record { len = columns_length ss es h; at = λ i l. columns_at ss es i h }

-- the same, by the length of the column of ends
pub column_view_ends : (ss es : List ℕ) → length ss ≡ length es → View (columns ss es) (length es) (λ i. get_or ss i 0) (λ i. get_or es i 0)
column_view_ends ss es h = record { len = columns_length ss es h ∙ h; at = λ i l. columns_at ss es i h }

pub word_view : (w : List ℕ) → View (unpacked w) (length w) (λ i. get_or w i 0 / 2 ^ 32) (λ i. get_or w i 0 % 2 ^ 32)
word_view w = record { len = unpacked_length w; at = λ i l. unpacked_at w i }

-- a part of a list of words
pub part_view : (w : List ℕ) (at n : ℕ) → at + n ≤ length w → View (unpacked (part at n w)) n (λ i. get_or w (at + i) 0 / 2 ^ 32) (λ i. get_or w (at + i) 0 % 2 ^ 32)
part_view w at n h = record {
  len = unpacked_length (part at n w) ∙ length_part at n w h;
  at = λ i l. unpacked_at (part at n w) i ∙ ap unpack (get_d_part at n w i l);
}

module _ {rs : List Range} {n : ℕ} {s e : ℕ → ℕ} (v : View rs n s e) (i : ℕ) (h : i < n) where
  pub start_view : (range_at rs i).start ≡ s i
  start_view = ap (λ (r : Range). r.start) (v.at i h)

  pub end_view : (range_at rs i).end ≡ e i
  end_view = ap (λ (r : Range). r.end) (v.at i h)
