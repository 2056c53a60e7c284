-- `apart`: the checks' ways out, and each item in its own cell.
use Prim.Native.Nat.{ℕ, ◌+◌, ◌-◌, ◌*◌, ◌/◌, ◌%◌, ◌≤◌, ◌<◌}
use native.Mathlib.Omega.{arith}
use mathlib.Core.Path.{◌≡◌, refl, ap, sym, ◌∙◌}
use mathlib.Core.Bool.{Bool, true, false, cond, not}
use mathlib.Core.Option.{none}
use mathlib.Core.List.{List, [], ◌∷◌, ◌++◌, map}
use lib.ListN.{length, drop}
use lib.Dec.{ltb, eqb}
use borrow.Author.Tests.{ltb-false, lt-ltb, le-ltb}
use Rattle.refusals.specs.declared.Refusal.{Refusal}
use Rattle.refusals.specs.declared.Refusal.TheVariants.{Count, Space}
use Rattle.refusals.specs.Verdicts.{check, Bad, Fine}
use Rattle.refusals.specs.Outcomes.{numbered}
use Rattle.refusals.proofs.Laws.{check_bad, check_fine, check_last}
use Rattle.words.specs.Rows.{whole_rows, tabulate, flat}
use Rattle.words.specs.Widths.{local_width, local_count, cell_width, item_width, slot_count}
use Rattle.words.specs.Inner.{local_size, local_align, slot_size}
use Rattle.words.proofs.RowLaws.{length_tabulate, tabulate_eq, tabulate_add, tabulate_get_d, map_tabulate}
use Rattle.words.proofs.FlatLaws.{flat_length}
use Rattle.words.proofs.Bools.{or_neither}
use Rattle.fitting.specs.Wants.{Want}
use Rattle.fitting.specs.Queries.{Room, apart, room_of}
use Rattle.capping.specs.Cap.{room_row}
use Rattle.apart.specs.Apart.{locals_of, widths_of, apart_count, apart_space, apart_verdict, lone_row, room_rows, lone_rows, apart_of, ApartBy}
use Rattle.apart.specs.Inner.{own_cell, own_cells, own_items}

module _ (locals slots : List ℕ) (cells items : ℕ) where
  pub apart_count_lem : apart_count locals slots cells items ≡ true → Bad Count 0 ≡ apart_verdict locals slots cells items
  unfolding apart_verdict
  apart_count_lem e = sym (check_bad Count (apart_count locals slots cells items) (check Space (apart_space (local_count locals + slot_count slots) cells items) ∷ []) e)

  module _ (e : apart_count locals slots cells items ≡ false) where
    rest : apart_verdict locals slots cells items ≡ check Space (apart_space (local_count locals + slot_count slots) cells items)
    unfolding apart_verdict
    rest = check_fine Count (apart_count locals slots cells items) (check Space (apart_space (local_count locals + slot_count slots) cells items) ∷ []) e
        ∙ check_last (check Space (apart_space (local_count locals + slot_count slots) cells items))

    pub apart_space_lem : apart_space (local_count locals + slot_count slots) cells items ≡ true → Bad Space 0 ≡ apart_verdict locals slots cells items
    apart_space_lem f = sym (rest ∙ ap (check Space) f)

    pub apart_fine : apart_space (local_count locals + slot_count slots) cells items ≡ false → Fine ≡ apart_verdict locals slots cells items
    apart_fine f = sym (rest ∙ ap (check Space) f)

  -- what holds where nothing is refused
  pub record Spare : Type 0 where
    pub few_locals : local_count locals ≤ 2048
    pub few_slots : length slots ≤ 2048
    pub few : local_count locals + slot_count slots ≤ 4096
    pub in_cells : cell_width * (local_count locals + slot_count slots) ≤ cells
    pub in_items : item_width * (local_count locals + slot_count slots) ≤ items

  pub apart_passed : apart_verdict locals slots cells items ≡ Fine → Spare
  apart_passed e = go (apart_count locals slots cells items) refl (apart_space (local_count locals + slot_count slots) cells items) refl
    where
      go : (b : Bool) → apart_count locals slots cells items ≡ b → (s : Bool) → apart_space (local_count locals + slot_count slots) cells items ≡ s → Spare
      go true f s g = let q = apart_count_lem f in let z : ◌≡◌ {A = ℕ} 0 1 = cc in absurd (omega arith)
      go false f true g = let q = apart_space_lem f g in let z : ◌≡◌ {A = ℕ} 0 1 = cc in absurd (omega arith)
      go false f false g =
          let (a, b) = or_neither (not (whole_rows local_width locals)) _ f in
          let (c, d) = or_neither (not (eqb (cells % cell_width) 0)) _ b in
          let (h, k) = or_neither (not (eqb (items % item_width) 0)) _ d in
          let (l, m) = or_neither (ltb 2048 (local_count locals)) (ltb 2048 (slot_count slots)) k in
          let (s, t) = or_neither (ltb (cells / cell_width) (local_count locals + slot_count slots)) _ g in
          let u = ltb-false 2048 (local_count locals) l in
          let v = ltb-false 2048 (length slots) m in
          let w = ltb-false (cells / cell_width) (local_count locals + slot_count slots) s in
          let x = ltb-false (items / item_width) (local_count locals + slot_count slots) t in
          record { few_locals = u; few_slots = v; few = omega arith; in_cells = omega arith; in_items = omega arith }

-- two tables one after the other
tables : {A : Type 0} (l m : ℕ) (a b c : ℕ → A) → ((i : ℕ) → i < l → a i ≡ c i) → ((i : ℕ) → i < m → b i ≡ c (l + i)) → tabulate l a ++ tabulate m b ≡ tabulate (l + m) c
tables {A} l m a b c f g =
    ap (λ (k : List A). k ++ tabulate m b) (tabulate_eq l a c f) ∙ ap (λ (k : List A). tabulate l c ++ k) (tabulate_eq m b (λ i. c (l + i)) g) ∙ sym (tabulate_add l m c)

module _ (locals slots : List ℕ) where
  abbrev pub local_at : ℕ → Want
  local_at i = record { size = local_size locals i; align = local_align locals i; area = none }

  abbrev pub slot_at : ℕ → Want
  slot_at i = record { size = slot_size slots i; align = slot_size slots i; area = none }

  pub widths_are : widths_of slots ≡ tabulate (length slots) slot_at
  widths_are = ap widths_of (sym (tabulate_get_d slots 0)) ∙ map_tabulate _ (length slots) (λ i. slot_size slots i)

  abbrev pub room_at : ℕ → Room
  room_at i = cond (ltb i (local_count locals)) (room_of (local_at i)) (room_of (slot_at (i - local_count locals)))

  pub rooms_are : (apart (locals_of locals) (widths_of slots)).cells ≡ tabulate (local_count locals + slot_count slots) room_at
  rooms_are =
      ap (λ (l : List Room). l ++ map room_of (widths_of slots)) (map_tabulate room_of (local_count locals) local_at)
      ∙ ap (λ (l : List Want). tabulate (local_count locals) (λ i. room_of (local_at i)) ++ map room_of l) widths_are
      ∙ ap (λ (l : List Room). tabulate (local_count locals) (λ i. room_of (local_at i)) ++ l) (map_tabulate room_of (length slots) slot_at)
      ∙ tables (local_count locals) (length slots) (λ i. room_of (local_at i)) (λ i. room_of (slot_at i)) room_at
      (λ i h. sym (ap (λ (t : Bool). cond t (room_of (local_at i)) (room_of (slot_at (i - local_count locals)))) (lt-ltb i (local_count locals) h)))
      (λ i h. let e : local_count locals + i - local_count locals ≡ i = omega arith in
      sym (ap (λ (t : Bool). cond t (room_of (local_at (local_count locals + i))) (room_of (slot_at (local_count locals + i - local_count locals)))) (le-ltb (local_count locals + i) (local_count locals) (omega arith))
      ∙ ap (λ (k : ℕ). room_of (slot_at k)) e))

  pub row_is : (i : ℕ) → room_row (room_at i) ≡ own_cell locals slots i
  row_is i = go (ltb i (local_count locals))
    where
      go : (t : Bool) → room_row (cond t (room_of (local_at i)) (room_of (slot_at (i - local_count locals))))
          ≡ cond t (local_size locals i ∷ local_align locals i ∷ []) (slot_size slots (i - local_count locals) ∷ slot_size slots (i - local_count locals) ∷ [])
      go true = refl
      go false = refl

  pub cells_are : room_rows (apart (locals_of locals) (widths_of slots)) ≡ own_cells locals slots
  cells_are =
      ap flat (ap (map room_row) rooms_are ∙ map_tabulate room_row (local_count locals + slot_count slots) room_at
      ∙ tabulate_eq (local_count locals + slot_count slots) _ (own_cell locals slots) (λ i h. row_is i))

  abbrev pub lone : ℕ → List ℕ
  lone i = i ∷ 0 ∷ 0 ∷ 0 ∷ []

  pub items_are : lone_rows (apart (locals_of locals) (widths_of slots)) ≡ own_items (local_count locals + slot_count slots)
  items_are =
      let a : length (locals_of locals) ≡ local_count locals = length_tabulate (local_count locals) local_at in
      let b : length (widths_of slots) ≡ length slots = ap length widths_are ∙ length_tabulate (length slots) slot_at in
      ap flat
      (ap (λ (l : List (List ℕ)). l ++ map lone_row (tabulate (length (widths_of slots)) (λ i. record { cell = length (locals_of locals) + i; area = none })))
      (map_tabulate lone_row (length (locals_of locals)) (λ i. record { cell = i; area = none }))
      ∙ ap (λ (l : List (List ℕ)). tabulate (length (locals_of locals)) lone ++ l)
      (map_tabulate lone_row (length (widths_of slots)) (λ i. record { cell = length (locals_of locals) + i; area = none }))
      ∙ tables (length (locals_of locals)) (length (widths_of slots)) lone (λ i. lone (length (locals_of locals) + i)) lone (λ i h. refl) (λ i h. refl)
      ∙ ap (λ (k : ℕ). tabulate k lone) (omega (arith, a, b)))

  own_wide : (i : ℕ) → length (own_cell locals slots i) ≡ 2
  own_wide i = go (ltb i (local_count locals))
    where
      go : (t : Bool) → length (cond t (local_size locals i ∷ local_align locals i ∷ []) (slot_size slots (i - local_count locals) ∷ slot_size slots (i - local_count locals) ∷ [])) ≡ 2
      go true = refl
      go false = refl

  pub cell_wide : (i : ℕ) → i < local_count locals + slot_count slots → length (own_cell locals slots i) ≡ 2
  cell_wide i h = own_wide i

  -- an item's cell, by its index
  pub own_local : (i : ℕ) → i < local_count locals → own_cell locals slots i ≡ local_size locals i ∷ local_align locals i ∷ []
  own_local i h = ap (λ (t : Bool). cond t (local_size locals i ∷ local_align locals i ∷ []) (slot_size slots (i - local_count locals) ∷ slot_size slots (i - local_count locals) ∷ [])) (lt-ltb i (local_count locals) h)

  pub own_slot : (i : ℕ) → local_count locals ≤ i → own_cell locals slots i ≡ slot_size slots (i - local_count locals) ∷ slot_size slots (i - local_count locals) ∷ []
  own_slot i h = ap (λ (t : Bool). cond t (local_size locals i ∷ local_align locals i ∷ []) (slot_size slots (i - local_count locals) ∷ slot_size slots (i - local_count locals) ∷ [])) (le-ltb i (local_count locals) h)

  module _ (cells items : List ℕ) where
    pub apart_refused : (r : Refusal) (k : ℕ) → apart_verdict locals slots (length cells) (length items) ≡ Bad r k
        → ApartBy (apart_verdict locals slots (length cells) (length items)) (apart_of locals slots (length cells) (length items)) cells items (Bad r k) cells items
    apart_refused r k e = record { answer = ap numbered (sym e); in_cells = rw e; in_items = rw e }

    pub apart_told : (cells' items' : List ℕ) → apart_verdict locals slots (length cells) (length items) ≡ Fine
        → cells' ≡ own_cells locals slots ++ drop (cell_width * (local_count locals + slot_count slots)) cells
        → items' ≡ own_items (local_count locals + slot_count slots) ++ drop (item_width * (local_count locals + slot_count slots)) items
        → ApartBy (apart_verdict locals slots (length cells) (length items)) (apart_of locals slots (length cells) (length items)) cells items Fine cells' items'
    apart_told cells' items' e f g = record {
      answer = ap numbered (sym e);
      in_cells = f ∙ ap (λ (k : ℕ). own_cells locals slots ++ drop k cells) (sym (flat_length 2 (local_count locals + slot_count slots) (own_cell locals slots) cell_wide))
          ∙ ap (λ (l : List ℕ). l ++ drop (length l) cells) (sym cells_are) ∙ rw e;
      in_items = g ∙ ap (λ (k : ℕ). own_items (local_count locals + slot_count slots) ++ drop k items) (sym (flat_length 4 (local_count locals + slot_count slots) lone (λ i h. refl)))
          ∙ ap (λ (l : List ℕ). l ++ drop (length l) items) (sym items_are) ∙ rw e;
    }
