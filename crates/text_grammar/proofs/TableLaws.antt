-- The table of groups: its columns, and rules that are computed over the whole of it.
use mathlib.Core.Path.{◌≡◌, refl, ap, sym, ◌∙◌}
use mathlib.Core.Logic.{◌≢◌, ◌⊎◌, inl, inr}
use mathlib.Core.Bool.{Bool, true, false, cond, not, ◌||◌}
use mathlib.Core.List.{List, [], ◌∷◌, map}
use Prim.Native.Nat.{ℕ, zero, suc, ◌+◌, ◌*◌, ◌≤◌, ◌<◌}
use native.Mathlib.Omega.{arith}
use native.Mathlib.Nat.{zero-add, le_of_suc-le-suc, not-suc-le-zero, mul-suc, mul-le-mul_left}
use native.Mathlib.Numerals.{add-one}
use lib.Dec.{T, eqb, leb, eqb→eq, leb→le}
use lib.ListN.{length, get_or, drop, drop_of_length-le, get_or-map}
use lib.Seq.{drop-cons}
use borrow.Author.Tests.{eq-eqb, ne_eqb, eqb-true, leb-true}
use Rattle.text_grammar.specs.Numerals.{dash}
use Rattle.text_grammar.specs.Groups.{Group, groups, group_at, base_at, no_group, group_count, row_numbers, allowed, index_of, unplaced, no_position, no_slot, inst_group, operand_group, assigned_group, move_group}
use Rattle.text_grammar.specs.Inner.{most_fields}

-- ---- a test that holds at each number below n, computed

abbrev both : Bool → Bool → Bool
both true b = b
both false b = false

both_left : (a b : Bool) → T (both a b) → T a
both_left true b t = tt
both_left false b t = t

both_right : (a b : Bool) → T (both a b) → T b
both_right true b t = t
both_right false b t = absurd t

abbrev pub every : ℕ → (ℕ → Bool) → Bool
every zero f = true
every (suc n) f = both (f 0) (every n (λ i. f (suc i)))

pub at : (n : ℕ) (f : ℕ → Bool) → T (every n f) → (k : ℕ) → k < n → T (f k)
at zero f t k h = absurd (not-suc-le-zero h)
at (suc n) f t zero h = both_left (f 0) (every n (λ i. f (suc i))) t
at (suc n) f t (suc k) h = at n (λ i. f (suc i)) (both_right (f 0) (every n (λ i. f (suc i))) t) k (le_of_suc-le-suc h)

-- ---- columns

pub column : (f : Group → ℕ) (k : ℕ) → get_or (map f groups) k (f no_group) ≡ f (group_at k)
column f k = get_or-map f groups k no_group

-- a column that is told by the group's number
abbrev pub column_of : ℕ → (ℕ → ℕ) → List ℕ
column_of zero f = []
column_of (suc n) f = f 0 ∷ column_of n (λ i. f (suc i))

pub column_at_lem : (n : ℕ) (f : ℕ → ℕ) (k : ℕ) → k < n → get_or (column_of n f) k 0 ≡ f k
column_at_lem zero f k h = absurd (not-suc-le-zero h)
column_at_lem (suc n) f zero h = refl
column_at_lem (suc n) f (suc k) h = column_at_lem n (λ i. f (suc i)) k (le_of_suc-le-suc h)

narrow_entry : ℕ → Bool
narrow_entry k = leb (length (group_at k).dashes) most_fields

pub fields_most : (k : ℕ) → k < group_count → length (group_at k).dashes ≤ most_fields
unfolding narrow_entry
fields_most k h = leb→le (length (group_at k).dashes) most_fields (at group_count narrow_entry tt k h)

-- ---- what `-` stands for, told by the few fields where it has a place

abbrev pub dash_of : ℕ → ℕ → ℕ
dash_of k j =
    cond (eqb k inst_group) (cond (eqb j 0) unplaced (cond (leb 5 j) no_position dash))
    (cond (eqb k assigned_group) (cond (eqb j 1) no_slot dash) (cond (eqb k move_group) (cond (leb 2 j) no_slot dash) dash))

dash_entry : ℕ → ℕ → Bool
dash_entry k j = eqb (dash_of k j) (get_or (group_at k).dashes j 0)

dash_row : ℕ → Bool
dash_row k = every (length (group_at k).dashes) (dash_entry k)

pub dash_told : (k j : ℕ) → (k < group_count) × (j < length (group_at k).dashes) → (d : ℕ) → dash_of k j ≡ d → d ≡ get_or (group_at k).dashes j 0
unfolding dash_row dash_entry
dash_told k j h d e =
    sym e ∙ eqb→eq (dash_of k j) _ (at (length (group_at k).dashes) (dash_entry k) (at group_count dash_row tt k h.0) j h.1)

-- ---- the place of an element

pub record Seeking (x : ℕ) (l : List ℕ) (k : ℕ) : Type 0 where
  pub k_le : k ≤ length l
  pub from : index_of x l ≡ k + index_of x (drop k l)

pub seek_start : (x : ℕ) (l : List ℕ) → Seeking x l 0
seek_start x l = record { k_le = omega arith; from = sym (zero-add (index_of x l)) }

here_at : (x y : ℕ) (l : List ℕ) → y ≡ x → index_of x (y ∷ l) ≡ 0
unfolding index_of
here_at x y l e = rw (eq-eqb y x e)

past_at : (x y : ℕ) (l : List ℕ) → (y ≡ x → ⊥) → index_of x (y ∷ l) ≡ suc (index_of x l)
unfolding index_of
past_at x y l d = rw (ne_eqb y x d)

none_left : (x : ℕ) → index_of x [] ≡ 0
unfolding index_of
none_left x = refl

module _ {x : ℕ} {l : List ℕ} {k : ℕ} (s : Seeking x l k) where
  pub seek_here : k < length l → get_or l k 0 ≡ x → k ≡ index_of x l
  seek_here h e = omega (arith, s.from, ap (index_of x) (drop-cons l k 0 h) ∙ here_at x (get_or l k 0) (drop (suc k) l) e)

  pub seek_past : k < length l → (get_or l k 0 ≡ x → ⊥) → Seeking x l (k + 1)
  seek_past h d = record {
    k_le = omega arith;
    from = omega (arith, s.from, ap (index_of x) (drop-cons l k 0 h) ∙ past_at x (get_or l k 0) (drop (suc k) l) d, ap (λ (n : ℕ). index_of x (drop n l)) (add-one k));
  }

  pub seek_end : length l ≤ k → length l ≡ index_of x l
  seek_end h = omega (arith, s.k_le, s.from, ap (index_of x) (drop_of_length-le l h) ∙ none_left x)

-- ---- the groups' regions in the reader's list

abbrev pub region_end : ℕ → ℕ
region_end k = base_at k + (group_at k).width * (group_at k).room

end_entry : ℕ → Bool
end_entry k = leb (region_end k) row_numbers

pub end_within : (k : ℕ) → k < group_count → region_end k ≤ row_numbers
unfolding end_entry
end_within k h = leb→le (region_end k) row_numbers (at group_count end_entry tt k h)

apart_entry : ℕ → ℕ → Bool
apart_entry j k = eqb j k || (leb (region_end j) (base_at k) || leb (region_end k) (base_at j))

apart_row : ℕ → Bool
apart_row j = every group_count (apart_entry j)

-- no two groups' regions have a number in common
pub regions_apart : (j k : ℕ) → j < group_count → k < group_count → j ≢ k → (region_end j ≤ base_at k) ⊎ (region_end k ≤ base_at j)
unfolding apart_entry apart_row
regions_apart j k h l d =
    go (eqb j k) (leb (region_end j) (base_at k)) (leb (region_end k) (base_at j)) refl refl refl (at group_count (apart_entry j) (at group_count apart_row tt j h) k l)
  where
    go : (s t u : Bool) → eqb j k ≡ s → leb (region_end j) (base_at k) ≡ t → leb (region_end k) (base_at j) ≡ u → T (s || (t || u))
        → (region_end j ≤ base_at k) ⊎ (region_end k ≤ base_at j)
    go true t u p q r x = absurd (d (eqb-true j k p))
    go false true u p q r x = inl (leb-true (region_end j) (base_at k) q)
    go false false true p q r x = inr (leb-true (region_end k) (base_at j) r)
    go false false false p q r x = absurd x

-- a row that there is room for
pub row_within : (k n : ℕ) → k < group_count → n < (group_at k).room → base_at k + (group_at k).width * n + (group_at k).width ≤ region_end k
row_within k n h l =
    let e : (group_at k).width * n + (group_at k).width ≤ (group_at k).width * (group_at k).room = rw (← mul-suc (group_at k).width n) (mul-le-mul_left (group_at k).width l) in omega arith

open_entry : ℕ → Bool
open_entry k = not (eqb (group_at k).place 4) || (eqb k inst_group || eqb k operand_group)

-- an instruction's place is an operand's too, and no other group's
pub open_place : (k : ℕ) → k < group_count → (group_at k).place ≡ 4 → (k ≡ inst_group) ⊎ (k ≡ operand_group)
unfolding open_entry
open_place k h e = go (eqb k inst_group) (eqb k operand_group) refl refl (rw (eq-eqb (group_at k).place 4 e) at (at group_count open_entry tt k h))
  where
    go : (s t : Bool) → eqb k inst_group ≡ s → eqb k operand_group ≡ t → T (s || t) → (k ≡ inst_group) ⊎ (k ≡ operand_group)
    go true t p q x = inl (eqb-true k inst_group p)
    go false true p q x = inr (eqb-true k operand_group q)
    go false false p q x = absurd x

room_entry : ℕ → Bool
room_entry k = leb (group_at k).room allowed

pub room_most : (k : ℕ) → k < group_count → (group_at k).room ≤ allowed
unfolding room_entry
room_most k h = leb→le (group_at k).room allowed (at group_count room_entry tt k h)
