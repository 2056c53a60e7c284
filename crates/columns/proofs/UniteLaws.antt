-- `union` over columns: the one pass over two lists, by what is read of their columns.
use mathlib.Core.Path.{◌≡◌, refl, sym, ◌∙◌}
use mathlib.Core.Bool.{Bool, true, false}
use mathlib.Core.List.{List}
use Prim.Native.Nat.{ℕ, ◌+◌, ◌≤◌, ◌<◌}
use native.Mathlib.Omega.{arith}
use lib.ListN.{length, get_or}
use Rattle.ranges.specs.Points.{range, Apart}
use Rattle.ranges.specs.Merged.{union}
use Rattle.ranges.specs.Forms.{columns}
use Rattle.ranges.specs.Inner.{TakenUp, Listing, one_first}
use Rattle.ranges.proofs.FormLaws.{View, columns_length, column_view}
use Rattle.ranges.proofs.UnionLaws.{Uniting, unite_start, read_one_in, read_two_in, read_room, read_one, read_two, read_done}

-- the first k of the answer's columns are written, which were os₀ and oe₀
pub record UnitingTo (ss es ts fs os₀ oe₀ os oe : List ℕ) (i j k : ℕ) : Type 0 where
  pub one : length ss ≡ length es
  pub two : length ts ≡ length fs
  pub out : length os₀ ≡ length oe₀
  pub starts_len : length os ≡ length os₀
  pub ends_len : length oe ≡ length oe₀
  pub uniting : Uniting (columns ss es) (columns ts fs) (columns os₀ oe₀) (columns os oe) i j k

module _ (ss es ts fs os oe : List ℕ) (one : length ss ≡ length es) (two : length ts ≡ length fs) (out : length os ≡ length oe) where
  pub to_start : length ss + length ts ≤ length os → Apart (columns ss es) → Apart (columns ts fs) → UnitingTo ss es ts fs os oe os oe 0 0 0
  to_start room a b = record {
    one = one;
    two = two;
    out = out;
    starts_len = refl;
    ends_len = refl;
    uniting = unite_start (columns ss es) (columns ts fs) (columns os oe) a b (rw (columns_length ss es one, columns_length ts fs two, columns_length os oe out) room);
  }

module _ {ss es ts fs os₀ oe₀ os oe : List ℕ} {i j k : ℕ} (u : UnitingTo ss es ts fs os₀ oe₀ os oe i j k) where
  one_view : View (columns ss es) (length ss) (λ q. get_or ss q 0) (λ q. get_or es q 0)
  one_view = column_view ss es u.one

  two_view : View (columns ts fs) (length ts) (λ q. get_or ts q 0) (λ q. get_or fs q 0)
  two_view = column_view ts fs u.two

  pub to_counts : (i ≤ length ss) × (j ≤ length ts)
  to_counts =
      let a = u.uniting.i_le in
      let b = u.uniting.j_le in
      let c = one_view.len in
      let d = two_view.len in
      (omega arith, omega arith)

  pub to_room : i + j < length ss + length ts → k < length os
  to_room h =
      let a = read_room one_view two_view u.uniting h in
      let l = columns_length os oe (let b = u.out in let c = u.starts_len in let d = u.ends_len in omega arith) in
      omega arith

  -- by the test of the fronts
  module _ {r : Bool} (e : r ≡ one_first (columns ss es) (columns ts fs) i j) where
    pub to_one_in : r ≡ true → i + j < length ss + length ts → i < length ss
    to_one_in t h = read_one_in one_view two_view u.uniting (sym e ∙ t) h

    pub to_two_in : r ≡ false → j < length ts
    to_two_in t = read_two_in one_view two_view u.uniting (sym e ∙ t)

    module _ {os' oe' : List ℕ} {k' : ℕ} (ls : length os' ≡ length os) (le : length oe' ≡ length oe) where
      goes_on : (i' j' : ℕ) → Uniting (columns ss es) (columns ts fs) (columns os₀ oe₀) (columns os' oe') i' j' k' → UnitingTo ss es ts fs os₀ oe₀ os' oe' i' j' k'
      goes_on i' j' v = record {
        one = u.one;
        two = u.two;
        out = u.out;
        starts_len = ls ∙ u.starts_len;
        ends_len = le ∙ u.ends_len;
        uniting = v;
      }

      pub to_one : r ≡ true → i + j < length ss + length ts → TakenUp (columns os oe) (columns os' oe') k k' (range (get_or ss i 0) (get_or es i 0)) → UnitingTo ss es ts fs os₀ oe₀ os' oe' (i + 1) j k'
      to_one t h x = goes_on (i + 1) j (read_one one_view two_view u.uniting (sym e ∙ t) (to_one_in t h) x)

      pub to_two : r ≡ false → TakenUp (columns os oe) (columns os' oe') k k' (range (get_or ts j 0) (get_or fs j 0)) → UnitingTo ss es ts fs os₀ oe₀ os' oe' i (j + 1) k'
      to_two t x = goes_on i (j + 1) (read_two one_view two_view u.uniting (sym e ∙ t) x)

  pub to_done : length ss + length ts ≤ i + j → Listing (columns os₀ oe₀) (columns os oe) k (union (columns ss es) (columns ts fs))
  to_done h = read_done one_view two_view u.uniting h
