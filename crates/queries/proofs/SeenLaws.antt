-- Rows that hold a plan: the queries see that plan, and none refuses it.
use Prim.Native.Nat.{ℕ, zero, suc, ◌+◌, ◌-◌, ◌*◌, ◌%◌, ◌≤◌, ◌<◌}
use native.Mathlib.Omega.{arith}
use native.Mathlib.Decide.{ℕ_discrete}
use mathlib.Core.Path.{◌≡◌, refl, ap, sym, subst, ◌∙◌}
use mathlib.Core.Bool.{Bool, false, cond, ◌||◌}
use mathlib.Core.Option.{Option, some, none}
use mathlib.Core.List.{List, [], ◌∷◌, map}
use lib.ListN.{length, get_or, take, drop, get_elem?}
use lib.Seq.{length-take-le, get_or-take}
use lib.Dec.{ltb, eqb}
use borrow.Author.Tests.{le-ltb, lt-leb, eq-eqb}
use Rattle.refusals.specs.declared.Refusal.TheVariants.{Want as WantRefused}
use Rattle.refusals.specs.Outcomes.{given, unless}
use Rattle.refusals.proofs.Laws.{scan_all}
use Rattle.words.specs.Rows.{tabulate}
use Rattle.words.specs.Widths.{cell_width, cell_count, cell_size, cell_align, item_width, item_row_count, item_cell, item_present, item_first, item_ranges, range_width, range_count, range_start, range_end}
use Rattle.words.proofs.RowLaws.{length_tabulate, tabulate_eq, take_tabulate, drop_tabulate, tabulate_get_d, map_tabulate}
use Rattle.words.proofs.Points.{cut, same}
use Rattle.ranges.specs.declared.Range.{Range}
use Rattle.ranges.specs.Points.{range}
use Rattle.ranges.specs.Forms.{areas_of}
use Rattle.fitting.specs.Wants.{Want, want_at}
use Rattle.fitting.specs.Plan.{Cell, cell_at, Plan}
use Rattle.fitting.specs.Queries.{Room, Item, Slots, slots_of, part_of, cell_in, local, slot, saved, shared, count_in, crowd, crowded_from, crowded, room_in, answered}
use Rattle.query_checks.specs.Checks.{bad_count, no_cell, plan_verdict, bad_areas, outside, bad_item, shared_verdict, crowded_verdict}
use Rattle.query_checks.proofs.CheckLaws.{plan_fine, parts_fine, crowd_plan, out_absent, out_present, sound}
use Rattle.queries.specs.Shares.{shared_part, area_of}
use Rattle.queries.specs.Seen.{PlanSeen}
use Rattle.queries.proofs.QueryLaws.{there, not_there, item_at}
use Rattle.queries.proofs.ShareLaws.{shared_area}
use Rattle.refusals.specs.Verdicts.{Fine, Verdict}

-- ---- a plan of c cells and n items, by index

abbrev pub plan_by : ℕ → ℕ → ℕ → (ℕ → Room) → (ℕ → Item) → Slots
plan_by locals c n room item = record { cells = tabulate c room; locals = tabulate locals item; slots = tabulate (n - locals) (λ i. item (locals + i)) }

-- rows of these cells and items, and an area list that their parts lie in
pub record RowsHold (cells items areas : List ℕ) (locals c n : ℕ) (room : ℕ → Room) (item : ℕ → Item) : Type 0 where
  pub cells_long : length cells ≡ cell_width * c
  pub items_long : length items ≡ item_width * n
  pub areas_whole : length areas % range_width ≡ 0
  pub areas_short : range_count areas ≤ 65536
  pub locals_in : locals ≤ n
  pub few_locals : locals ≤ 2048
  pub few_slots : n - locals ≤ 2048
  pub few_cells : c ≤ n
  pub room_is : (i : ℕ) → i < c → record { size = cell_size cells i; align = cell_align cells i } ≡ room i
  pub cell_is : (i : ℕ) → i < n → item_cell items i ≡ (item i).cell
  pub named : (i : ℕ) → i < n → (item i).cell < c
  pub area_is : (i : ℕ) → i < n → part_of (areas_of areas) (item_present items i) (item_first items i) (item_ranges items i) ≡ (item i).area
  pub inside : (i : ℕ) → i < n → (item_present items i ≡ 0 → ⊥) → item_first items i + item_ranges items i ≤ range_count areas

-- ---- an area list cut behind the parts

abbrev range_in : List ℕ → ℕ → Range
range_in s i = range (range_start s i) (range_end s i)

part_at : (s : List ℕ) (first count : ℕ) → first + count ≤ range_count s → take count (drop first (areas_of s)) ≡ tabulate count (λ j. range_in s (first + j))
part_at s first count h =
    ap (take count) (drop_tabulate first (range_count s) (range_in s) (omega arith)) ∙ take_tabulate count (range_count s - first) (λ j. range_in s (first + j)) (omega arith)

part_cut : (s : List ℕ) (k first count : ℕ) → k ≤ range_count s → first + count ≤ k → take count (drop first (areas_of (take (range_width * k) s))) ≡ take count (drop first (areas_of s))
part_cut s k first count h l =
    let e = length-take-le (range_width * k) s (omega arith) in
    part_at (take (range_width * k) s) first count (omega arith)
    ∙ tabulate_eq count _ _ (λ j q. ap (λ (x : ℕ). range x (range_end (take (range_width * k) s) (first + j))) (get_or-take (range_width * k) s (range_width * (first + j) + 0) 0 (omega arith))
    ∙ ap (λ (x : ℕ). range (range_start s (first + j)) x) (get_or-take (range_width * k) s (range_width * (first + j) + 1) 0 (omega arith)))
    ∙ sym (part_at s first count (omega arith))

module _ {cells items areas : List ℕ} {locals c n : ℕ} {room : ℕ → Room} {item : ℕ → Item} (H : RowsHold cells items areas locals c n room item) where
  -- the first k ranges are enough where every part ends by k
  pub cut_held : (k : ℕ) → k ≤ range_count areas → ((i : ℕ) → i < n → (item_present items i ≡ 0 → ⊥) → item_first items i + item_ranges items i ≤ k) → RowsHold cells items (take (range_width * k) areas) locals c n room item
  cut_held k h ends =
      let e = length-take-le (range_width * k) areas (omega arith) in
      record {
        cells_long = H.cells_long;
        items_long = H.items_long;
        areas_whole = omega arith;
        areas_short = omega (arith, H.areas_short);
        locals_in = H.locals_in;
        few_locals = H.few_locals;
        few_slots = H.few_slots;
        few_cells = H.few_cells;
        room_is = H.room_is;
        cell_is = H.cell_is;
        named = H.named;
        area_is = λ i q. area i q (ℕ_discrete (item_present items i) 0);
        inside = λ i q d. omega (arith, ends i q d);
      }
    where
      area : (i : ℕ) → i < n → Dec (item_present items i ≡ 0) → part_of (areas_of (take (range_width * k) areas)) (item_present items i) (item_first items i) (item_ranges items i) ≡ (item i).area
      area i q (yes z) =
          ap (λ (t : Bool). cond t none (some (take (item_ranges items i) (drop (item_first items i) (areas_of (take (range_width * k) areas)))))) (eq-eqb (item_present items i) 0 z)
          ∙ sym (ap (λ (t : Bool). cond t none (some (take (item_ranges items i) (drop (item_first items i) (areas_of areas))))) (eq-eqb (item_present items i) 0 z)) ∙ H.area_is i q
      area i q (no d) =
          ap (λ (rs : List Range). cond (eqb (item_present items i) 0) none (some rs)) (part_cut areas k (item_first items i) (item_ranges items i) h (ends i q d)) ∙ H.area_is i q

-- ---- what depends on the items' cells alone

module _ (f g : ℕ → Item) where
  cell_alike : (m i : ℕ) → ((j : ℕ) → j < m → (f j).cell ≡ (g j).cell) → cell_in (get_elem? (tabulate m f) i) ≡ cell_in (get_elem? (tabulate m g) i)
  cell_alike m i e = cut m i
      (λ h. ap cell_in (not_there m f i h ∙ sym (not_there m g i h)))
      (λ h. ap cell_in (there m f i h) ∙ ap (λ (k : ℕ). some k) (e i h) ∙ sym (ap cell_in (there m g i h)))

count_alike : (f g : ℕ → Item) (m : ℕ) → ((j : ℕ) → j < m → (f j).cell ≡ (g j).cell) → (c : ℕ) → count_in (tabulate m f) c ≡ count_in (tabulate m g) c
unfolding count_in tabulate
count_alike f g zero e c = refl
count_alike f g (suc m) e c =
    ap (λ (k : ℕ). cond (eqb k c) 1 0 + count_in (tabulate m (λ i. f (suc i))) c) (e 0 (omega arith))
    ∙ ap (λ (k : ℕ). cond (eqb (g 0).cell c) 1 0 + k) (count_alike (λ i. f (suc i)) (λ i. g (suc i)) m (λ j h. e (suc j) (omega arith)) c)

from_alike : (S T : Slots) → ((c : ℕ) → crowd S c ≡ crowd T c) → (f g : ℕ → Item) (m n : ℕ) → ((j : ℕ) → j < m → (f j).cell ≡ (g j).cell) → crowded_from S n (tabulate m f) ≡ crowded_from T n (tabulate m g)
unfolding crowded_from tabulate
from_alike S T k f g zero n e = refl
from_alike S T k f g (suc m) n e =
    ap (λ (l : List ℕ). cond (crowd S (f 0).cell) (n ∷ l) l) (from_alike S T k (λ i. f (suc i)) (λ i. g (suc i)) m (suc n) (λ j h. e (suc j) (omega arith)))
    ∙ ap (λ (t : Bool). cond t (n ∷ crowded_from T (suc n) (tabulate m (λ i. g (suc i)))) (crowded_from T (suc n) (tabulate m (λ i. g (suc i))))) (k (f 0).cell ∙ ap (crowd T) (e 0 (omega arith)))

module _ (locals c n : ℕ) (room : ℕ → Room) (f g : ℕ → Item) (h : locals ≤ n) (e : (j : ℕ) → j < n → (f j).cell ≡ (g j).cell) where
  in_locals : (j : ℕ) → j < locals → (f j).cell ≡ (g j).cell
  in_locals j l = e j (omega arith)

  in_slots : (j : ℕ) → j < n - locals → (f (locals + j)).cell ≡ (g (locals + j)).cell
  in_slots j l = e (locals + j) (omega arith)

  local_alike : (i : ℕ) → local (plan_by locals c n room f) i ≡ local (plan_by locals c n room g) i
  local_alike i = cell_alike f g locals i in_locals

  slot_alike : (i : ℕ) → slot (plan_by locals c n room f) i ≡ slot (plan_by locals c n room g) i
  slot_alike i = cell_alike (λ j. f (locals + j)) (λ j. g (locals + j)) (n - locals) i in_slots

  saved_alike : saved (plan_by locals c n room f) ≡ saved (plan_by locals c n room g)
  saved_alike =
      let a = length_tabulate locals f in
      let b = length_tabulate locals g in
      let d = length_tabulate (n - locals) (λ j. f (locals + j)) in
      let k = length_tabulate (n - locals) (λ j. g (locals + j)) in
      ap (λ (l : ℕ). l - length (tabulate c room)) (let z : length (tabulate locals f) + length (tabulate (n - locals) (λ j. f (locals + j))) ≡ length (tabulate locals g) + length (tabulate (n - locals) (λ j. g (locals + j))) = omega arith in z)

  crowd_alike : (k : ℕ) → crowd (plan_by locals c n room f) k ≡ crowd (plan_by locals c n room g) k
  crowd_alike k =
      let a = count_alike f g locals in_locals k in
      let b = count_alike (λ j. f (locals + j)) (λ j. g (locals + j)) (n - locals) in_slots k in
      ap (ltb 1) (let z : count_in (tabulate locals f) k + count_in (tabulate (n - locals) (λ j. f (locals + j))) k ≡ count_in (tabulate locals g) k + count_in (tabulate (n - locals) (λ j. g (locals + j))) k = omega arith in z)

  crowded_alike : crowded (plan_by locals c n room f) ≡ crowded (plan_by locals c n room g)
  crowded_alike = from_alike (plan_by locals c n room f) (plan_by locals c n room g) crowd_alike (λ j. f (locals + j)) (λ j. g (locals + j)) (n - locals) 0 in_slots

-- ---- the rows

three : {c d : List Room} {l m : List Item} {s t : List Item} → c ≡ d → l ≡ m → s ≡ t → ◌≡◌ {A = Slots} (record { cells = c; locals = l; slots = s }) (record { cells = d; locals = m; slots = t })
three e f g = rw (e, f, g) refl

two : {x y : ℕ} {a b : Option (List Range)} → x ≡ y → a ≡ b → ◌≡◌ {A = Item} (record { cell = x; area = a }) (record { cell = y; area = b })
two e f = rw (e, f) refl

module _ {cells items areas : List ℕ} {locals c n : ℕ} {room : ℕ → Room} {item : ℕ → Item} (H : RowsHold cells items areas locals c n room item) where
  count_is : cell_count cells ≡ c
  count_is = omega (arith, H.cells_long)

  items_are : item_row_count items ≡ n
  items_are = omega (arith, H.items_long)

  -- whatever the area list is
  rows_of : (a : List ℕ) → slots_of locals cells items a ≡ plan_by locals c n room (item_at a items)
  rows_of a = three
      (ap (λ (k : ℕ). tabulate k (λ i. record { size = cell_size cells i; align = cell_align cells i })) count_is ∙ tabulate_eq c _ room H.room_is)
      (ap (λ (k : ℕ). take locals (tabulate k (item_at a items))) items_are ∙ take_tabulate locals n (item_at a items) H.locals_in)
      (ap (λ (k : ℕ). drop locals (tabulate k (item_at a items))) items_are ∙ drop_tabulate locals n (item_at a items) H.locals_in)

  item_is : (i : ℕ) → i < n → item_at areas items i ≡ item i
  item_is i h = two (H.cell_is i h) (H.area_is i h)

  rows_seen : slots_of locals cells items areas ≡ plan_by locals c n room item
  rows_seen =
      rows_of areas
      ∙ three refl (tabulate_eq locals (item_at areas items) item (λ i h. item_is i (omega (arith, H.locals_in))))
      (tabulate_eq (n - locals) (λ i. item_at areas items (locals + i)) (λ i. item (locals + i)) (λ i h. item_is (locals + i) (omega arith)))

  -- ---- the checks

  count_fine : bad_count cells items locals ≡ false
  count_fine =
      simp (
        eq-eqb (length cells % cell_width) 0 (omega (arith, H.cells_long)),
        eq-eqb (length items % item_width) 0 (omega (arith, H.items_long)),
        le-ltb (item_row_count items) locals (omega (arith, items_are, H.locals_in)),
        le-ltb 2048 locals H.few_locals,
        le-ltb 2048 (item_row_count items - locals) (omega (arith, items_are, H.few_slots)),
      )

  areas_fine : bad_areas areas ≡ false
  areas_fine = simp (eq-eqb (length areas % range_width) 0 H.areas_whole, le-ltb 65536 (range_count areas) H.areas_short)

  counts_fine : bad_count cells items locals || bad_areas areas ≡ false
  counts_fine = ap (λ (t : Bool). t || bad_areas areas) count_fine ∙ areas_fine

  cell_fine : (i : ℕ) → i < item_row_count items → no_cell cells items i ≡ false
  cell_fine i h =
      let k : i < n = omega (arith, items_are) in
      lt-leb (cell_count cells) (item_cell items i) (omega (arith, count_is, H.cell_is i k, H.named i k))

  part_fine : (i : ℕ) → i < item_row_count items → outside (range_count areas) (item_present items i) (item_first items i) (item_ranges items i) ≡ false
  part_fine i h = same (item_present items i) 0
      (λ e. sym (out_absent (range_count areas) (item_present items i) (item_first items i) (item_ranges items i) e))
      (λ d. sym (out_present (range_count areas) (item_present items i) (item_first items i) (item_ranges items i) d)
      ∙ le-ltb (range_count areas) (item_first items i + item_ranges items i) (H.inside i (omega (arith, items_are)) d))

  item_fine : (i : ℕ) → i < item_row_count items → bad_item cells items (range_count areas) i ≡ false
  item_fine i h = ap (λ (t : Bool). t || outside (range_count areas) (item_present items i) (item_first items i) (item_ranges items i)) (cell_fine i h) ∙ part_fine i h

  few : cell_count cells ≤ item_row_count items
  few = omega (arith, count_is, items_are, H.few_cells)

  pub plan_passes : plan_verdict cells items locals ≡ Fine
  plan_passes = sym (plan_fine cells items locals count_fine (scan_all WantRefused (no_cell cells items) (item_row_count items) cell_fine) few)

  pub shared_passes : shared_verdict cells items areas locals ≡ Fine
  shared_passes = sym (parts_fine cells items areas locals counts_fine (scan_all WantRefused (bad_item cells items (range_count areas)) (item_row_count items) item_fine) few)

  pub crowded_passes : (r : ℕ) → n - locals ≤ r → crowded_verdict cells items locals r ≡ Fine
  crowded_passes r h = sym (crowd_plan cells items locals r count_fine (omega (arith, items_are))) ∙ plan_passes

  -- ---- the queries

  pub plan_seen : PlanSeen (plan_by locals c n room item) locals cells items areas
  plan_seen = record {
    rows = rows_seen;
    in_local = λ i.
        ap (λ (v : Verdict). unless v (local (slots_of locals cells items []) i)) plan_passes
        ∙ ap (λ (S : Slots). given (local S i)) (rows_of []) ∙ ap (λ (o : Option ℕ). given o) (local_alike locals c n room (item_at [] items) item H.locals_in H.cell_is i);
    in_slot = λ i.
        ap (λ (v : Verdict). unless v (slot (slots_of locals cells items []) i)) plan_passes
        ∙ ap (λ (S : Slots). given (slot S i)) (rows_of []) ∙ ap (λ (o : Option ℕ). given o) (slot_alike locals c n room (item_at [] items) item H.locals_in H.cell_is i);
    in_saved =
        ap (λ (v : Verdict). unless v (saved (slots_of locals cells items []))) plan_passes
        ∙ ap (λ (S : Slots). given (saved S)) (rows_of []) ∙ ap (λ (k : ℕ). given k) (saved_alike locals c n room (item_at [] items) item H.locals_in H.cell_is);
    in_shared = λ i.
        ap (λ (v : Verdict). area_of (areas_of areas) (unless v (shared_part cells items locals i))) shared_passes
        ∙ ap (λ (o : Option (List Range)). given o) (shared_area cells items areas locals (sound cells items locals plan_passes) i ∙ ap (λ (S : Slots). shared S i) rows_seen);
    in_crowded = λ r h.
        ap (λ (v : Verdict). unless v (crowded (slots_of locals cells items []))) (crowded_passes r (omega (arith, length_tabulate (n - locals) (λ i. item (locals + i)))))
        ∙ ap (λ (S : Slots). given (crowded S)) (rows_of []) ∙ ap (λ (l : List ℕ). given l) (crowded_alike locals c n room (item_at [] items) item H.locals_in H.cell_is);
  }

-- ---- the plan that fitting makes

-- a cell's numbers, and an item's cell and area
abbrev pub room_at : Plan → ℕ → Room
room_at p i = room_in (cell_at p.cells i)

abbrev pub item_of : List Want → Plan → ℕ → Item
item_of ws p i = record { cell = p.cell i; area = (want_at ws i).area }

rooms_are : (cs : List Cell) → tabulate (length cs) (λ i. room_in (cell_at cs i)) ≡ map room_in cs
rooms_are cs =
    let d : Cell = record { size = 0; align = 0; area = none } in
    sym (map_tabulate room_in (length cs) (λ i. get_or cs i d)) ∙ ap (map room_in) (tabulate_get_d cs d)

pub answered_is : (ws : List Want) (p : Plan) (locals n : ℕ) → length ws ≡ n → plan_by locals (length p.cells) n (room_at p) (item_of ws p) ≡ answered ws locals p
answered_is ws p locals n e = three (rooms_are p.cells) refl (ap (λ (k : ℕ). tabulate (k - locals) (λ i. item_of ws p (locals + i))) (sym e))

pub answered_seen : (ws : List Want) (p : Plan) {cells items areas : List ℕ} {locals n : ℕ} → length ws ≡ n → RowsHold cells items areas locals (length p.cells) n (room_at p) (item_of ws p)
    → PlanSeen (answered ws locals p) locals cells items areas
answered_seen ws p {cells} {items} {areas} {locals} {n} e H = subst (λ (S : Slots). PlanSeen S locals cells items areas) (answered_is ws p locals n e) (plan_seen H)
