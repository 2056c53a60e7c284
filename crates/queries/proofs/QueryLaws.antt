-- The queries: the checks' ways out, and an item by its index.
use Prim.Native.Nat.{ℕ, zero, suc, ◌+◌, ◌-◌, ◌*◌, ◌≤◌, ◌<◌}
use native.Mathlib.Omega.{arith}
use native.Mathlib.Nat.{add-zero}
use mathlib.Core.Path.{◌≡◌, refl, ap, sym, ◌∙◌}
use mathlib.Core.Option.{Option, some, none}
use mathlib.Core.List.{List}
use lib.ListN.{length, get_or, get_elem?}
use Rattle.refusals.specs.declared.Refusal.{Refusal}
use Rattle.refusals.specs.Outcomes.{unless, answered, found}
use Rattle.words.specs.Rows.{tabulate}
use Rattle.words.specs.Widths.{cell_count, item_width, item_row_count, item_cell, item_present, item_first, item_ranges}
use Rattle.words.proofs.RowLaws.{length_tabulate, take_tabulate, drop_tabulate}
use Rattle.ranges.specs.Forms.{areas_of}
use Rattle.fitting.specs.Queries.{Item, slots_of, part_of, cell_in, local, slot, saved}
use Rattle.query_checks.proofs.CheckLaws.{Sound}
use Rattle.refusals.specs.Verdicts.{Bad, Fine, Verdict}
use Rattle.std.specs.Prelude.{Ok, Err, Some, None}

-- ---- an item by its index

module _ {A : Type 0} where
  pub there : (n : ℕ) (f : ℕ → A) (i : ℕ) → i < n → get_elem? (tabulate n f) i ≡ some (f i)
  unfolding tabulate
  there zero f i h = absurd (omega arith)
  there (suc n) f zero h = refl
  there (suc n) f (suc i) h = there n (λ j. f (suc j)) i (omega arith)

  pub not_there : (n : ℕ) (f : ℕ → A) (i : ℕ) → n ≤ i → get_elem? (tabulate n f) i ≡ none
  unfolding tabulate
  not_there zero f i h = refl
  not_there (suc n) f zero h = absurd (omega arith)
  not_there (suc n) f (suc i) h = not_there n (λ j. f (suc j)) i (omega arith)

abbrev pub item_at : List ℕ → List ℕ → ℕ → Item
item_at areas s i = record { cell = item_cell s i; area = part_of (areas_of areas) (item_present s i) (item_first s i) (item_ranges s i) }

module _ (areas cells items : List ℕ) (locals : ℕ) (S : Sound cells items locals) where
  pub locals_are : (slots_of locals cells items areas).locals ≡ tabulate locals (item_at areas items)
  locals_are = take_tabulate locals (item_row_count items) (item_at areas items) S.whole.0

  pub slots_are : (slots_of locals cells items areas).slots ≡ tabulate (item_row_count items - locals) (λ i. item_at areas items (locals + i))
  slots_are = drop_tabulate locals (item_row_count items) (item_at areas items) S.whole.0

  pub cell_at : (i : ℕ) → get_or items (item_width * i) 0 ≡ item_cell items i
  cell_at i = ap (λ (k : ℕ). get_or items k 0) (sym (add-zero (item_width * i)))

  pub local_at : (i : ℕ) → i < locals → local (slots_of locals cells items areas) i ≡ some (get_or items (item_width * i) 0)
  local_at i h =
      ap (λ (l : List Item). cell_in (get_elem? l i)) locals_are ∙ ap cell_in (there locals (item_at areas items) i h) ∙ ap some (sym (cell_at i))

  pub local_none : (i : ℕ) → locals ≤ i → local (slots_of locals cells items areas) i ≡ none
  local_none i h = ap (λ (l : List Item). cell_in (get_elem? l i)) locals_are ∙ ap cell_in (not_there locals (item_at areas items) i h)

  pub slot_at : (i : ℕ) → locals + i < item_row_count items → slot (slots_of locals cells items areas) i ≡ some (get_or items (item_width * (locals + i)) 0)
  slot_at i h =
      ap (λ (l : List Item). cell_in (get_elem? l i)) slots_are
      ∙ ap cell_in (there (item_row_count items - locals) (λ j. item_at areas items (locals + j)) i (omega arith)) ∙ ap some (sym (cell_at (locals + i)))

  pub slot_none : (i : ℕ) → item_row_count items ≤ locals + i → slot (slots_of locals cells items areas) i ≡ none
  slot_none i h =
      ap (λ (l : List Item). cell_in (get_elem? l i)) slots_are ∙ ap cell_in (not_there (item_row_count items - locals) (λ j. item_at areas items (locals + j)) i (omega arith))

  pub saved_is : saved (slots_of locals cells items areas) ≡ item_row_count items - cell_count cells
  saved_is =
      let a : length (slots_of locals cells items areas).locals ≡ locals = ap length locals_are ∙ length_tabulate locals (item_at areas items) in
      let b : length (slots_of locals cells items areas).slots ≡ item_row_count items - locals = ap length slots_are ∙ length_tabulate (item_row_count items - locals) (λ i. item_at areas items (locals + i)) in
      let c : length (slots_of locals cells items areas).cells ≡ cell_count cells = length_tabulate (cell_count cells) _ in
      omega (arith, a, b, c, S.whole.0)

-- ---- outcomes

pub place_told : (v : Verdict) (o : Option ℕ) (c : ℕ) → v ≡ Fine → o ≡ some c → found (Ok (Some c)) ≡ unless v o
place_told v o c e f = rw (e, f)

pub place_none : (v : Verdict) (o : Option ℕ) → v ≡ Fine → o ≡ none → found (Ok None) ≡ unless v o
place_none v o e f = rw (e, f)

pub place_refused : (v : Verdict) (o : Option ℕ) (r : Refusal) (i : ℕ) → v ≡ Bad r i → found (Err (r, i)) ≡ unless v o
place_refused v o r i e = rw e

pub saved_told : (v : Verdict) (n m : ℕ) → v ≡ Fine → n ≡ m → answered (Ok n) ≡ unless v m
saved_told v n m e f = rw (e, f)

pub saved_refused : (v : Verdict) (m : ℕ) (r : Refusal) (i : ℕ) → v ≡ Bad r i → answered (Err (r, i)) ≡ unless v m
saved_refused v m r i e = rw e
