-- The checks' ways out, and what holds where none refuses.
use Prim.Native.Nat.{ℕ, ◌+◌, ◌-◌, ◌*◌, ◌≤◌, ◌<◌}
use native.Mathlib.Omega.{arith}
use native.Mathlib.Nat.{add-zero}
use mathlib.Core.Path.{◌≡◌, refl, ap, sym, ◌∙◌}
use mathlib.Core.Bool.{Bool, true, false, cond, not, ◌||◌}
use mathlib.Core.List.{List, [], ◌∷◌}
use lib.ListN.{get_or}
use lib.Dec.{leb, ltb}
use borrow.Author.Tests.{ltb-false, leb-false, lt-ltb, le-ltb, le-leb, lt-leb, ltb-true, eq-eqb, ne_eqb}
use Rattle.refusals.specs.declared.Refusal.{Refusal}
use Rattle.refusals.specs.declared.Refusal.TheVariants.{Count, Want, Space}
use Rattle.refusals.specs.Verdicts.{in_order, first, check, Bad, Fine, Verdict}
use Rattle.refusals.proofs.Laws.{check_bad, check_fine, check_last, first_fine, first_bad, first_left, first_right, scan_fine}
use Rattle.words.specs.Rows.{whole_rows}
use Rattle.words.specs.Widths.{cell_width, cell_count, item_width, item_row_count, item_cell, item_present, item_first, item_ranges, range_count}
use Rattle.words.proofs.Bools.{or_neither}
use Rattle.query_checks.specs.Checks.{bad_count, no_cell, items_verdict, surplus, plan_verdict, bad_areas, outside, bad_item, parts_verdict, shared_verdict, told_verdict, crowded_verdict}

-- ---- the checks

-- counts, then the items, then surplus cells
module _ (b : Bool) (v : Verdict) (cells items : List ℕ) where
  pub checks_rest : b ≡ false → in_order (check Count b ∷ v ∷ surplus cells items ∷ []) ≡ first v (surplus cells items)
  unfolding in_order
  checks_rest e = check_fine Count b (v ∷ surplus cells items ∷ []) e ∙ ap (first v) (check_last (surplus cells items))

  pub checks_count : b ≡ true → Bad Count 0 ≡ in_order (check Count b ∷ v ∷ surplus cells items ∷ [])
  checks_count e = sym (check_bad Count b (v ∷ surplus cells items ∷ []) e)

  pub checks_item : b ≡ false → (r : Refusal) (i : ℕ) → v ≡ Bad r i → Bad r i ≡ in_order (check Count b ∷ v ∷ surplus cells items ∷ [])
  checks_item e r i f = sym (checks_rest e ∙ first_bad v (surplus cells items) r i f)

  pub checks_surplus : b ≡ false → v ≡ Fine → item_row_count items < cell_count cells → Bad Want (item_row_count items) ≡ in_order (check Count b ∷ v ∷ surplus cells items ∷ [])
  checks_surplus e f h =
      sym (checks_rest e ∙ first_fine v (surplus cells items) f ∙ ap (λ (t : Bool). cond t (Bad Want (item_row_count items)) Fine) (lt-ltb (item_row_count items) (cell_count cells) h))

  pub checks_fine : b ≡ false → v ≡ Fine → cell_count cells ≤ item_row_count items → Fine ≡ in_order (check Count b ∷ v ∷ surplus cells items ∷ [])
  checks_fine e f h =
      sym (checks_rest e ∙ first_fine v (surplus cells items) f ∙ ap (λ (t : Bool). cond t (Bad Want (item_row_count items)) Fine) (le-ltb (item_row_count items) (cell_count cells) h))

  -- what holds where none refuses
  pub checks_passed : in_order (check Count b ∷ v ∷ surplus cells items ∷ []) ≡ Fine → (b ≡ false) × (v ≡ Fine) × (surplus cells items ≡ Fine)
  checks_passed e = go b refl
    where
      go : (t : Bool) → b ≡ t → (b ≡ false) × (v ≡ Fine) × (surplus cells items ≡ Fine)
      go true f = let q = checks_count f in let z : ◌≡◌ {A = ℕ} 0 1 = cc in absurd (omega arith)
      go false f = let q = sym (checks_rest f) ∙ e in (f, first_left v (surplus cells items) q, first_right v (surplus cells items) q)

module _ (cells items : List ℕ) (locals : ℕ) where
  pub plan_count : bad_count cells items locals ≡ true → Bad Count 0 ≡ plan_verdict cells items locals
  unfolding plan_verdict
  plan_count e = checks_count (bad_count cells items locals) (items_verdict cells items) cells items e

  pub plan_item : bad_count cells items locals ≡ false → (r : Refusal) (i : ℕ) → items_verdict cells items ≡ Bad r i → Bad r i ≡ plan_verdict cells items locals
  unfolding plan_verdict
  plan_item e r i f = checks_item (bad_count cells items locals) (items_verdict cells items) cells items e r i f

  pub plan_surplus : bad_count cells items locals ≡ false → items_verdict cells items ≡ Fine → item_row_count items < cell_count cells → Bad Want (item_row_count items) ≡ plan_verdict cells items locals
  unfolding plan_verdict
  plan_surplus e f h = checks_surplus (bad_count cells items locals) (items_verdict cells items) cells items e f h

  pub plan_fine : bad_count cells items locals ≡ false → items_verdict cells items ≡ Fine → cell_count cells ≤ item_row_count items → Fine ≡ plan_verdict cells items locals
  unfolding plan_verdict
  plan_fine e f h = checks_fine (bad_count cells items locals) (items_verdict cells items) cells items e f h

  plan_passed : plan_verdict cells items locals ≡ Fine → (bad_count cells items locals ≡ false) × (items_verdict cells items ≡ Fine) × (surplus cells items ≡ Fine)
  unfolding plan_verdict
  plan_passed e = checks_passed (bad_count cells items locals) (items_verdict cells items) cells items e

  -- what holds of a plan that is not refused
  pub record Sound : Type 0 where
    pub whole : (locals ≤ item_row_count items) × (item_row_count items ≤ 4096)
    pub enough : cell_count cells ≤ item_row_count items

  surplus_none : surplus cells items ≡ Fine → cell_count cells ≤ item_row_count items
  surplus_none e = go (ltb (item_row_count items) (cell_count cells)) refl
    where
      go : (t : Bool) → ltb (item_row_count items) (cell_count cells) ≡ t → cell_count cells ≤ item_row_count items
      go true f = let q : surplus cells items ≡ Bad Want (item_row_count items) = ap (λ (t : Bool). cond t (Bad Want (item_row_count items)) Fine) f in let z : ◌≡◌ {A = ℕ} 0 1 = cc in absurd (omega arith)
      go false f = ltb-false _ _ f

  pub sound_of : bad_count cells items locals ≡ false → surplus cells items ≡ Fine → Sound
  sound_of c s =
      let (a, b) = or_neither (not (whole_rows cell_width cells)) _ c in
      let (d, f) = or_neither (not (whole_rows item_width items)) _ b in
      let (g, h) = or_neither (ltb (item_row_count items) locals) _ f in
      let (k, l) = or_neither (ltb 2048 locals) _ h in
      record {
        whole = (ltb-false (item_row_count items) locals g, omega (arith, ltb-false (item_row_count items) locals g, ltb-false 2048 locals k, ltb-false 2048 (item_row_count items - locals) l));
        enough = surplus_none s;
      }

  pub locals_fit : bad_count cells items locals ≡ false → locals ≤ item_row_count items
  locals_fit c =
      let (a, b) = or_neither (not (whole_rows cell_width cells)) _ c in
      let (d, f) = or_neither (not (whole_rows item_width items)) _ b in
      ltb-false _ _ (or_neither (ltb (item_row_count items) locals) _ f).0

  pub sound : plan_verdict cells items locals ≡ Fine → Sound
  sound e = let p = plan_passed e in sound_of p.0 p.2

  -- each item names a cell
  pub named : plan_verdict cells items locals ≡ Fine → (i : ℕ) → i < item_row_count items → item_cell items i < cell_count cells
  named e i h = leb-false _ _ (scan_fine Want (no_cell cells items) (item_row_count items) (plan_passed e).1 i h)

-- ---- an item's cell

pub names_none : (cells items : List ℕ) (i : ℕ) → cell_count cells ≤ get_or items (item_width * i) 0 → no_cell cells items i ≡ true
names_none cells items i h = ap (λ (k : ℕ). leb (cell_count cells) (get_or items k 0)) (add-zero (item_width * i)) ∙ le-leb (cell_count cells) (get_or items (item_width * i) 0) h

pub names_one : (cells items : List ℕ) (i : ℕ) → get_or items (item_width * i) 0 < cell_count cells → no_cell cells items i ≡ false
names_one cells items i h = ap (λ (k : ℕ). leb (cell_count cells) (get_or items k 0)) (add-zero (item_width * i)) ∙ lt-leb (cell_count cells) (get_or items (item_width * i) 0) h

-- ---- the test of one item

pub item_nameless : (cells items : List ℕ) (ranges i : ℕ) → cell_count cells ≤ get_or items (item_width * i) 0 → bad_item cells items ranges i ≡ true
item_nameless cells items ranges i h = ap (λ (t : Bool). t || outside ranges (item_present items i) (item_first items i) (item_ranges items i)) (names_none cells items i h)

pub item_named : (cells items : List ℕ) (ranges i : ℕ) → get_or items (item_width * i) 0 < cell_count cells → bad_item cells items ranges i ≡ outside ranges (item_present items i) (item_first items i) (item_ranges items i)
item_named cells items ranges i h = ap (λ (t : Bool). t || outside ranges (item_present items i) (item_first items i) (item_ranges items i)) (names_one cells items i h)

pub out_absent : (ranges present first count : ℕ) → present ≡ 0 → false ≡ outside ranges present first count
out_absent ranges present first count e = sym (ap (λ (t : Bool). cond t false (ltb ranges (first + count))) (eq-eqb present 0 e))

pub out_present : (ranges present first count : ℕ) → (present ≡ 0 → ⊥) → ltb ranges (first + count) ≡ outside ranges present first count
out_present ranges present first count d = sym (ap (λ (t : Bool). cond t false (ltb ranges (first + count))) (ne_eqb present 0 d))

-- ---- `shared`

module _ (cells items areas : List ℕ) (locals : ℕ) where
  pub counts_plan : bad_count cells items locals ≡ true → true ≡ bad_count cells items locals || bad_areas areas
  counts_plan e = sym (ap (λ (t : Bool). t || bad_areas areas) e)

  pub counts_areas : {r : Bool} → bad_count cells items locals ≡ false → r ≡ bad_areas areas → r ≡ bad_count cells items locals || bad_areas areas
  counts_areas e f = f ∙ sym (ap (λ (t : Bool). t || bad_areas areas) e)

  pub parts_count : bad_count cells items locals || bad_areas areas ≡ true → Bad Count 0 ≡ shared_verdict cells items areas locals
  unfolding shared_verdict
  parts_count e = checks_count (bad_count cells items locals || bad_areas areas) (parts_verdict cells items (range_count areas)) cells items e

  module _ (e : bad_count cells items locals || bad_areas areas ≡ false) where
    pub parts_item : (r : Refusal) (i : ℕ) → parts_verdict cells items (range_count areas) ≡ Bad r i → Bad r i ≡ shared_verdict cells items areas locals
    unfolding shared_verdict
    parts_item r i g = checks_item (bad_count cells items locals || bad_areas areas) (parts_verdict cells items (range_count areas)) cells items e r i g

    pub parts_surplus : parts_verdict cells items (range_count areas) ≡ Fine → item_row_count items < cell_count cells → Bad Want (item_row_count items) ≡ shared_verdict cells items areas locals
    unfolding shared_verdict
    parts_surplus g h = checks_surplus (bad_count cells items locals || bad_areas areas) (parts_verdict cells items (range_count areas)) cells items e g h

    pub parts_fine : parts_verdict cells items (range_count areas) ≡ Fine → cell_count cells ≤ item_row_count items → Fine ≡ shared_verdict cells items areas locals
    unfolding shared_verdict
    parts_fine g h = checks_fine (bad_count cells items locals || bad_areas areas) (parts_verdict cells items (range_count areas)) cells items e g h

  passed : shared_verdict cells items areas locals ≡ Fine
      → (bad_count cells items locals || bad_areas areas ≡ false) × (parts_verdict cells items (range_count areas) ≡ Fine) × (surplus cells items ≡ Fine)
  unfolding shared_verdict
  passed e = checks_passed (bad_count cells items locals || bad_areas areas) (parts_verdict cells items (range_count areas)) cells items e

  pub shared_sound : shared_verdict cells items areas locals ≡ Fine → Sound cells items locals
  shared_sound e = let p = passed e in sound_of cells items locals (or_neither (bad_count cells items locals) (bad_areas areas) p.0).0 p.2

  pub part_inside : shared_verdict cells items areas locals ≡ Fine → (i : ℕ) → i < item_row_count items → (item_present items i ≡ 0 → ⊥) → item_first items i + item_ranges items i ≤ range_count areas
  part_inside e i h d =
      let q = (or_neither (no_cell cells items i) _ (scan_fine Want (bad_item cells items (range_count areas)) (item_row_count items) (passed e).1 i h)).1 in
      ltb-false _ _ (out_present (range_count areas) (item_present items i) (item_first items i) (item_ranges items i) d ∙ q)

-- ---- `shared` with its part told

module _ (cells items areas : List ℕ) (locals room : ℕ) where
  abbrev records : List Verdict
  records = parts_verdict cells items (range_count areas) ∷ surplus cells items ∷ []

  pub told_count : bad_count cells items locals || bad_areas areas ≡ true → Bad Count 0 ≡ told_verdict cells items areas locals room
  unfolding told_verdict
  told_count e = sym (check_bad Count (bad_count cells items locals || bad_areas areas) (check Space (ltb room 2) ∷ records) e)

  pub told_space : bad_count cells items locals || bad_areas areas ≡ false → room < 2 → Bad Space 0 ≡ told_verdict cells items areas locals room
  unfolding told_verdict
  told_space e h = sym (check_fine Count (bad_count cells items locals || bad_areas areas) (check Space (ltb room 2) ∷ records) e ∙ check_bad Space (ltb room 2) records (lt-ltb room 2 h))

  -- where there is room, nothing else changes
  pub told_room : 2 ≤ room → shared_verdict cells items areas locals ≡ told_verdict cells items areas locals room
  unfolding shared_verdict told_verdict
  told_room h = go (bad_count cells items locals || bad_areas areas)
    where
      go : (t : Bool) → in_order (check Count t ∷ records) ≡ in_order (check Count t ∷ check Space (ltb room 2) ∷ records)
      go true = check_bad Count true records refl ∙ sym (check_bad Count true (check Space (ltb room 2) ∷ records) refl)
      go false =
          check_fine Count false records refl
          ∙ sym (check_fine Count false (check Space (ltb room 2) ∷ records) refl ∙ check_fine Space (ltb room 2) records (le-ltb room 2 h))

-- ---- `crowded`

module _ (cells items : List ℕ) (locals room : ℕ) where
  abbrev rest : List Verdict
  rest = items_verdict cells items ∷ surplus cells items ∷ []

  pub crowd_count : bad_count cells items locals ≡ true → Bad Count 0 ≡ crowded_verdict cells items locals room
  unfolding crowded_verdict
  crowd_count e = sym (check_bad Count (bad_count cells items locals) (check Space (ltb room (item_row_count items - locals)) ∷ rest) e)

  module _ (e : bad_count cells items locals ≡ false) where
    pub crowd_space : room < item_row_count items - locals → Bad Space 0 ≡ crowded_verdict cells items locals room
    unfolding crowded_verdict
    crowd_space h =
        sym (check_fine Count (bad_count cells items locals) (check Space (ltb room (item_row_count items - locals)) ∷ rest) e
        ∙ check_bad Space (ltb room (item_row_count items - locals)) rest (lt-ltb _ _ h))

    pub crowd_plan : item_row_count items - locals ≤ room → plan_verdict cells items locals ≡ crowded_verdict cells items locals room
    unfolding plan_verdict crowded_verdict
    crowd_plan h =
        check_fine Count (bad_count cells items locals) rest e
        ∙ sym (check_fine Count (bad_count cells items locals) (check Space (ltb room (item_row_count items - locals)) ∷ rest) e
        ∙ check_fine Space (ltb room (item_row_count items - locals)) rest (le-ltb _ _ h))

  -- what holds where nothing is refused
  pub record Roomy : Type 0 where
    pub plan : plan_verdict cells items locals ≡ Fine
    pub fits : item_row_count items - locals ≤ room

  pub crowd_passed : crowded_verdict cells items locals room ≡ Fine → Roomy
  crowd_passed e = go (bad_count cells items locals) refl (ltb room (item_row_count items - locals)) refl
    where
      go : (b : Bool) → bad_count cells items locals ≡ b → (s : Bool) → ltb room (item_row_count items - locals) ≡ s → Roomy
      go true f s g = let q = crowd_count f in let z : ◌≡◌ {A = ℕ} 0 1 = cc in absurd (omega arith)
      go false f true g = let q = crowd_space f (ltb-true _ _ g) in let z : ◌≡◌ {A = ℕ} 0 1 = cc in absurd (omega arith)
      go false f false g = let l = ltb-false _ _ g in record { plan = crowd_plan f l ∙ e; fits = l }
