-- Members of a cell, counted; and the slots that are in a cell with two or more.
use Prim.Native.Nat.{ℕ, zero, suc, ◌+◌, ◌*◌, ◌≤◌, ◌<◌}
use native.Mathlib.Omega.{arith}
use native.Mathlib.Nat.{add-zero}
use native.Mathlib.Numerals.{add-one}
use mathlib.Core.Path.{◌≡◌, refl, ap, sym, ◌∙◌}
use mathlib.Core.Logic.{◌≢◌}
use mathlib.Core.Bool.{Bool, true, false, cond}
use mathlib.Core.List.{List, [], ◌∷◌, ◌++◌, append-nil}
use lib.ListN.{length, get_or, set, drop, length-set, length-append}
use lib.Dec.{ltb, eqb}
use borrow.Author.Tests.{eq-eqb, ne_eqb}
use Rattle.words.specs.Widths.{item_width, item_row_count, item_cell}
use Rattle.words.proofs.Points.{stored}
use Rattle.words.proofs.RegionLaws.{push}
use Rattle.members.specs.Inner.{members, Counted, picks, crowded_slot, Picked}

-- ---- one item more

module _ (items : List ℕ) (c i : ℕ) where
  test_is : eqb (get_or items (item_width * i) 0) c ≡ eqb (item_cell items i) c
  test_is = ap (λ (k : ℕ). eqb (get_or items k 0) c) (sym (add-zero (item_width * i)))

  pub members_hit : get_or items (item_width * i) 0 ≡ c → members items c (i + 1) ≡ members items c i + 1
  unfolding members
  members_hit e = ap (members items c) (add-one i) ∙ ap (λ (t : Bool). members items c i + cond t 1 0) (sym test_is ∙ eq-eqb _ _ e)

  pub members_miss : get_or items (item_width * i) 0 ≢ c → members items c (i + 1) ≡ members items c i
  unfolding members
  members_miss d = ap (members items c) (add-one i) ∙ ap (λ (t : Bool). members items c i + cond t 1 0) (sym test_is ∙ ne_eqb _ _ d) ∙ add-zero (members items c i)

pub members_none : (items : List ℕ) (c : ℕ) → members items c 0 ≡ 0
unfolding members
members_none items c = refl

pub members_le : (items : List ℕ) (c n : ℕ) → members items c n ≤ n
unfolding members
members_le items c zero = omega arith
members_le items c (suc n) = go (members items c n) (members_le items c n) (eqb (item_cell items n) c)
  where
    go : (m : ℕ) → m ≤ n → (t : Bool) → m + cond t 1 0 ≤ suc n
    go m h true = omega arith
    go m h false = omega arith

-- ---- a count for each cell

pub record Counting (items counts₀ counts : List ℕ) (i : ℕ) : Type 0 where
  pub i_le : i ≤ item_row_count items
  pub len : length counts ≡ length counts₀
  pub counted : Counted items counts i

pub counting_start : (items counts : List ℕ) → ((i : ℕ) → i < item_row_count items → item_cell items i < length counts) → ((c : ℕ) → c < length counts → get_or counts c 0 ≡ 0) → Counting items counts counts 0
counting_start items counts known none = record {
  i_le = omega arith;
  len = refl;
  counted = record { known = known; is = λ c h. none c h ∙ sym (members_none items c) };
}

module _ {items counts₀ counts : List ℕ} {i : ℕ} (d : Counting items counts₀ counts i) (h : i < item_row_count items) where
  pub cell_known : get_or items (item_width * i) 0 < length counts
  cell_known = let q = d.counted.known i h in let e = add-zero (item_width * i) in rw e at q

  pub count_small : get_or counts (get_or items (item_width * i) 0) 0 ≤ i
  count_small = let e = d.counted.is (get_or items (item_width * i) 0) cell_known in omega (arith, e, members_le items (get_or items (item_width * i) 0) i)

  pub counting_more : Counting items counts₀ (set counts (get_or items (item_width * i) 0) (get_or counts (get_or items (item_width * i) 0) 0 + 1)) (i + 1)
  counting_more = record {
    i_le = omega arith;
    len = length-set counts _ _ ∙ d.len;
    counted = record {
      known = λ j l. rw (length-set counts (get_or items (item_width * i) 0) (get_or counts (get_or items (item_width * i) 0) 0 + 1)) (d.counted.known j l);
      is = λ c l. let k : c < length counts = rw (length-set counts (get_or items (item_width * i) 0) (get_or counts (get_or items (item_width * i) 0) 0 + 1)) at l in
          stored (λ y. y ≡ members items c (i + 1)) counts (get_or items (item_width * i) 0) _ c cell_known
          (λ e. ap (λ (x : ℕ). get_or counts x 0 + 1) (sym e) ∙ ap (λ (x : ℕ). x + 1) (d.counted.is c k) ∙ sym (members_hit items c i (sym e)))
          (λ e. d.counted.is c k ∙ sym (members_miss items c i (λ f. e (sym f))));
    };
  }

-- ---- the slots that are not alone

module _ (t : ℕ → Bool) (s : ℕ) where
  picks_hit : t s ≡ true → picks t (s + 1) ≡ picks t s ++ (s ∷ [])
  unfolding picks
  picks_hit e = ap (picks t) (add-one s) ∙ ap (λ (b : Bool). picks t s ++ cond b (s ∷ []) []) e

  picks_miss : t s ≡ false → picks t (s + 1) ≡ picks t s
  unfolding picks
  picks_miss e = ap (picks t) (add-one s) ∙ ap (λ (b : Bool). picks t s ++ cond b (s ∷ []) []) e ∙ append-nil (picks t s)

pub record Picking (t : ℕ → Bool) (n : ℕ) (out₀ out : List ℕ) (k s : ℕ) : Type 0 where
  pub s_le : s ≤ n
  pub k_le : k ≤ s
  pub room : n ≤ length out₀
  pub len : length out ≡ length out₀
  pub count : k ≡ length (picks t s)
  pub list : out ≡ picks t s ++ drop k out₀

pub picking_start : (t : ℕ → Bool) (n : ℕ) (out : List ℕ) → n ≤ length out → Picking t n out out 0 0
unfolding picks
picking_start t n out h = record { s_le = omega arith; k_le = omega arith; room = h; len = refl; count = refl; list = refl }

module _ {t : ℕ → Bool} {n : ℕ} {out₀ out : List ℕ} {k s : ℕ} (d : Picking t n out₀ out k s) (h : s < n) where
  pub picking_hit : t s ≡ true → Picking t n out₀ (set out k s) (k + 1) (s + 1)
  picking_hit e = record {
    s_le = omega arith;
    k_le = omega (arith, d.k_le);
    room = d.room;
    len = length-set out k s ∙ d.len;
    count = let a = length-append (picks t s) (s ∷ []) in omega (arith, d.count, a, ap length (picks_hit t s e));
    list = ap (λ (l : List ℕ). set l k s) d.list ∙ push (picks t s) out₀ k s (sym d.count) (omega (arith, d.k_le, d.room))
        ∙ ap (λ (l : List ℕ). l ++ drop (k + 1) out₀) (sym (picks_hit t s e));
  }

  pub picking_miss : t s ≡ false → Picking t n out₀ out k (s + 1)
  picking_miss e = record {
    s_le = omega arith;
    k_le = omega (arith, d.k_le);
    room = d.room;
    len = d.len;
    count = d.count ∙ ap length (sym (picks_miss t s e));
    list = d.list ∙ ap (λ (l : List ℕ). l ++ drop k out₀) (sym (picks_miss t s e));
  }

pub picking_done : {t : ℕ → Bool} {n : ℕ} {out₀ out : List ℕ} {k s : ℕ} → Picking t n out₀ out k s → n ≤ s → Picked (picks t n) out₀ out k
picking_done {t} {n} {out₀} {out} {k} {s} d h =
    let e : s ≡ n = omega (arith, d.s_le) in
    let c : k ≡ length (picks t n) = d.count ∙ ap (λ (m : ℕ). length (picks t m)) e in
    record {
      count = c;
      list = d.list ∙ ap (λ (m : ℕ). picks t m ++ drop k out₀) e ∙ ap (λ (m : ℕ). picks t n ++ drop m out₀) c;
    }

-- what a count tells of a slot
pub slot_test : {items counts : List ℕ} (locals s : ℕ) → Counted items counts (item_row_count items) → locals + s < item_row_count items
    → ltb 1 (get_or counts (get_or items (item_width * (locals + s)) 0) 0) ≡ crowded_slot items locals s
slot_test {items} {counts} locals s d h =
    let e = add-zero (item_width * (locals + s)) in
    ap (λ (x : ℕ). ltb 1 (get_or counts (get_or items x 0) 0)) (sym e) ∙ ap (ltb 1) (d.is (item_cell items (locals + s)) (d.known (locals + s) h))

pub slot_known : {items counts : List ℕ} (locals s : ℕ) → Counted items counts (item_row_count items) → locals + s < item_row_count items → get_or items (item_width * (locals + s)) 0 < length counts
slot_known {items} {counts} locals s d h = let q = d.known (locals + s) h in let e = add-zero (item_width * (locals + s)) in rw e at q
