-- The members counted, and the slots listed, are those of the definition.
use Prim.Native.Nat.{ℕ, zero, suc, ◌+◌, ◌-◌}
use native.Mathlib.Omega.{arith}
use native.Mathlib.Nat.{add-zero}
use mathlib.Core.Path.{◌≡◌, refl, ap, sym, ◌∙◌}
use mathlib.Core.Bool.{Bool, true, false, cond}
use mathlib.Core.List.{List, [], ◌∷◌, ◌++◌}
use lib.ListN.{length, take, drop}
use lib.Dec.{ltb}
use Rattle.words.specs.Rows.{tabulate}
use Rattle.words.specs.Widths.{item_row_count, item_cell}
use Rattle.words.proofs.RowLaws.{tabulate_suc, length_tabulate}
use Rattle.words.proofs.Points.{same}
use Rattle.ranges.specs.Forms.{areas_of}
use Rattle.fitting.specs.Queries.{Item, Slots, slots_of, items_of, count_in, crowd, crowded_from, crowded}
use Rattle.members.specs.Inner.{members, members_in, picks, crowded_slot, crowded_slots}
use Rattle.query_checks.proofs.CheckLaws.{Sound}
use Rattle.queries.proofs.QueryLaws.{item_at, slots_are}

-- ---- the definition's count

count_append : (xs ys : List Item) (c : ℕ) → count_in (xs ++ ys) c ≡ count_in xs c + count_in ys c
unfolding count_in
count_append [] ys c = omega arith
count_append (x ∷ xs) ys c = omega (arith, count_append xs ys c)

count_split : (k : ℕ) (xs : List Item) (c : ℕ) → count_in (take k xs) c + count_in (drop k xs) c ≡ count_in xs c
unfolding count_in
count_split zero xs c = omega arith
count_split (suc k) [] c = refl
count_split (suc k) (x ∷ xs) c = omega (arith, count_split k xs c)

count_members : (areas items : List ℕ) (c n : ℕ) → count_in (tabulate n (item_at areas items)) c ≡ members items c n
unfolding members count_in tabulate
count_members areas items c zero = refl
count_members areas items c (suc n) =
    ap (λ (l : List Item). count_in l c) (tabulate_suc n (item_at areas items)) ∙ count_append (tabulate n (item_at areas items)) (item_at areas items n ∷ []) c
    ∙ omega (arith, count_members areas items c n)

pub crowd_is : (areas cells items : List ℕ) (locals c : ℕ) → crowd (slots_of locals cells items areas) c ≡ ltb 1 (members_in items c)
crowd_is areas cells items locals c = ap (ltb 1) (count_split locals (items_of (areas_of areas) items) c ∙ count_members areas items c (item_row_count items))

-- ---- the slots that are not alone

cond_append : (t : Bool) (n : ℕ) (a b : List ℕ) → cond t (n ∷ (a ++ b)) (a ++ b) ≡ cond t (n ∷ a) a ++ b
cond_append true n a b = refl
cond_append false n a b = refl

from_more : (S : Slots) (n : ℕ) (xs : List Item) (x : Item) → crowded_from S n (xs ++ (x ∷ [])) ≡ crowded_from S n xs ++ cond (crowd S x.cell) ((n + length xs) ∷ []) []
unfolding crowded_from
from_more S n [] x = ap (λ (k : ℕ). cond (crowd S x.cell) (k ∷ []) []) (sym (add-zero n))
from_more S n (y ∷ xs) x =
    let e : suc n + length xs ≡ n + suc (length xs) = omega arith in
    ap (λ (l : List ℕ). cond (crowd S y.cell) (n ∷ l) l) (from_more S (suc n) xs x)
    ∙ cond_append (crowd S y.cell) n (crowded_from S (suc n) xs) (cond (crowd S x.cell) ((suc n + length xs) ∷ []) [])
    ∙ ap (λ (k : ℕ). cond (crowd S y.cell) (n ∷ crowded_from S (suc n) xs) (crowded_from S (suc n) xs) ++ cond (crowd S x.cell) (k ∷ []) []) e

from_picks : (S : Slots) (f : ℕ → Item) (t : ℕ → Bool) → ((i : ℕ) → crowd S (f i).cell ≡ t i) → (m : ℕ) → crowded_from S 0 (tabulate m f) ≡ picks t m
unfolding crowded_from picks tabulate
from_picks S f t same zero = refl
from_picks S f t same (suc m) =
    let e : 0 + length (tabulate m f) ≡ m = omega (arith, length_tabulate m f) in
    ap (crowded_from S 0) (tabulate_suc m f) ∙ from_more S 0 (tabulate m f) (f m)
    ∙ ap (λ (l : List ℕ). l ++ cond (crowd S (f m).cell) ((0 + length (tabulate m f)) ∷ []) []) (from_picks S f t same m)
    ∙ ap (λ (k : ℕ). picks t m ++ cond (crowd S (f m).cell) (k ∷ []) []) e ∙ ap (λ (b : Bool). picks t m ++ cond b (m ∷ []) []) (same m)

pub crowded_is : (cells items : List ℕ) (locals : ℕ) → Sound cells items locals → crowded (slots_of locals cells items []) ≡ crowded_slots items locals
crowded_is cells items locals s =
    ap (crowded_from (slots_of locals cells items []) 0) (slots_are [] cells items locals s)
    ∙ from_picks (slots_of locals cells items []) (λ i. item_at [] items (locals + i)) (crowded_slot items locals) (λ i. crowd_is [] cells items locals (item_cell items (locals + i))) (item_row_count items - locals)
