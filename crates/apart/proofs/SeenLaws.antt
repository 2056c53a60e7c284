-- The rows that `apart` writes, as the queries take them: each item in its own cell, no area, and no query refuses it.
use Prim.Native.Nat.{ℕ, ◌+◌, ◌-◌, ◌*◌, ◌%◌, ◌≤◌, ◌<◌}
use native.Mathlib.Omega.{arith}
use mathlib.Core.Path.{◌≡◌, refl, ap, sym, subst, ◌∙◌}
use mathlib.Core.Bool.{Bool, cond}
use mathlib.Core.Option.{some, none}
use mathlib.Core.List.{List, ◌++◌}
use lib.ListN.{length, get_or, take, drop}
use lib.Seq.{take_at}
use borrow.Author.Tests.{eq-eqb}
use Rattle.refusals.specs.Outcomes.{unless, after}
use Rattle.refusals.proofs.Laws.{numbered_fine}
use Rattle.words.specs.Rows.{field, tabulate}
use Rattle.words.specs.Widths.{local_count, cell_width, cell_size, cell_align, item_width, item_present, item_first, item_ranges, range_width, range_count, slot_count}
use Rattle.words.proofs.RowLaws.{length_tabulate}
use Rattle.words.proofs.FlatLaws.{flat_length, flat_at}
use Rattle.ranges.specs.Forms.{areas_of}
use Rattle.fitting.specs.Queries.{Room, Item, Slots, apart}
use Rattle.queries.specs.Seen.{PlanSeen}
use Rattle.queries.proofs.SeenLaws.{RowsHold, plan_by, plan_seen}
use Rattle.apart.specs.Apart.{locals_of, widths_of, apart_verdict, room_rows, lone_rows, apart_of, ApartBy}
use Rattle.apart.specs.Inner.{own_cell, own_cells, own_items}
use Rattle.apart.proofs.ApartLaws.{apart_passed, local_at, slot_at, widths_are, room_at, rooms_are, row_is, cells_are, items_are, lone, cell_wide}
use Rattle.refusals.specs.Verdicts.{Fine, Verdict}

module _ (locals slots : List ℕ) where
  abbrev count : ℕ
  count = local_count locals + slot_count slots

  abbrev pub item_alone : ℕ → Item
  item_alone i = record { cell = i; area = none }

  -- the definition's plan, by index
  pub plan_is : plan_by (local_count locals) count count (room_at locals slots) item_alone ≡ apart (locals_of locals) (widths_of slots)
  plan_is =
      let a : length (locals_of locals) ≡ local_count locals = length_tabulate (local_count locals) (local_at locals slots) in
      let b : length (widths_of slots) ≡ length slots = ap length (widths_are locals slots) ∙ length_tabulate (length slots) (slot_at locals slots) in
      let c : count - local_count locals ≡ length (widths_of slots) = omega (arith, b) in
      three (sym (rooms_are locals slots)) (ap (λ (k : ℕ). tabulate k item_alone) (sym a))
      (ap (λ (k : ℕ). tabulate k (λ i. item_alone (local_count locals + i))) c ∙ ap (λ (k : ℕ). tabulate (length (widths_of slots)) (λ i. item_alone (k + i))) (sym a))
    where
      three : {c d : List Room} {l m s t : List Item} → c ≡ d → l ≡ m → s ≡ t → ◌≡◌ {A = Slots} (record { cells = c; locals = l; slots = s }) (record { cells = d; locals = m; slots = t })
      three e f g = rw (e, f, g) refl

  room_seen : (i : ℕ) → i < count → record { size = cell_size (own_cells locals slots) i; align = cell_align (own_cells locals slots) i } ≡ room_at locals slots i
  room_seen i h =
      two (flat_at 2 count (own_cell locals slots) (cell_wide locals slots) i 0 h (omega arith) ∙ ap (λ (l : List ℕ). get_or l 0 0) (sym (row_is locals slots i)))
      (flat_at 2 count (own_cell locals slots) (cell_wide locals slots) i 1 h (omega arith) ∙ ap (λ (l : List ℕ). get_or l 1 0) (sym (row_is locals slots i)))
    where
      two : {x y a b : ℕ} → x ≡ a → y ≡ b → ◌≡◌ {A = Room} (record { size = x; align = y }) (record { size = a; align = b })
      two e f = rw (e, f) refl

  alone_at : (i f : ℕ) → i < count → f < 4 → field item_width (own_items count) i f ≡ get_or (lone locals slots i) f 0
  alone_at i f h k = flat_at 4 count (lone locals slots) (λ j q. refl) i f h k

  module _ (areas : List ℕ) (whole : length areas % range_width ≡ 0) (short : range_count areas ≤ 65536) (few_locals : local_count locals ≤ 2048) (few_slots : length slots ≤ 2048) where
    alone_held : RowsHold (own_cells locals slots) (own_items count) areas (local_count locals) count count (room_at locals slots) item_alone
    alone_held = record {
      cells_long = flat_length 2 count (own_cell locals slots) (cell_wide locals slots);
      items_long = flat_length 4 count (lone locals slots) (λ i h. refl);
      areas_whole = whole;
      areas_short = short;
      locals_in = omega arith;
      few_locals = few_locals;
      few_slots = omega arith;
      few_cells = omega arith;
      room_is = room_seen;
      cell_is = λ i h. alone_at i 0 h (omega arith);
      named = λ i h. h;
      area_is = λ i h. ap (λ (t : Bool). cond t none (some (take (item_ranges (own_items count) i) (drop (item_first (own_items count) i) (areas_of areas))))) (eq-eqb (item_present (own_items count) i) 0 (alone_at i 1 h (omega arith)));
      inside = λ i h d. absurd (d (alone_at i 1 h (omega arith)));
    }

-- what a call wrote: each query of it is the definition's, and none refuses it, whatever area list is lent with it
module _ (locals slots : List ℕ) {cells items cells' items' : List ℕ}
    (E : ApartBy (apart_verdict locals slots (length cells) (length items)) (apart_of locals slots (length cells) (length items)) cells items Fine cells' items') where
  abbrev many : ℕ
  many = local_count locals + slot_count slots

  fine : apart_verdict locals slots (length cells) (length items) ≡ Fine
  fine = numbered_fine (apart_verdict locals slots (length cells) (length items)) E.answer

  cells_front : take (cell_width * many) cells' ≡ own_cells locals slots
  cells_front =
      ap (take (cell_width * many)) (E.in_cells ∙ ap (λ (v : Verdict). after (unless v (apart (locals_of locals) (widths_of slots))) room_rows cells) fine ∙ ap (λ (l : List ℕ). l ++ drop (length l) cells) (cells_are locals slots))
      ∙ take_at (own_cells locals slots) (drop (length (own_cells locals slots)) cells) (cell_width * many) (flat_length 2 many (own_cell locals slots) (cell_wide locals slots))

  items_front : take (item_width * many) items' ≡ own_items many
  items_front =
      ap (take (item_width * many)) (E.in_items ∙ ap (λ (v : Verdict). after (unless v (apart (locals_of locals) (widths_of slots))) lone_rows items) fine ∙ ap (λ (l : List ℕ). l ++ drop (length l) items) (items_are locals slots))
      ∙ take_at (own_items many) (drop (length (own_items many)) items) (item_width * many) (flat_length 4 many (lone locals slots) (λ i h. refl))

  -- the rows that stand there hold the plan
  pub held : (areas : List ℕ) → length areas % range_width ≡ 0 → range_count areas ≤ 65536
      → RowsHold (take (cell_width * many) cells') (take (item_width * many) items') areas (local_count locals) many many (room_at locals slots) (item_alone locals slots)
  held areas w s =
      let S = apart_passed locals slots (length cells) (length items) fine in
      rw (cells_front, items_front) (alone_held locals slots areas w s S.few_locals S.few_slots)

  pub apart_seen : (areas : List ℕ) → length areas % range_width ≡ 0 → range_count areas ≤ 65536
      → PlanSeen (apart (locals_of locals) (widths_of slots)) (local_count locals) (take (cell_width * many) cells') (take (item_width * many) items') areas
  apart_seen areas w s =
      subst (λ (S : Slots). PlanSeen S (local_count locals) (take (cell_width * many) cells') (take (item_width * many) items') areas) (plan_is locals slots) (plan_seen (held areas w s))
