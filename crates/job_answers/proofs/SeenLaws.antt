-- The rows of a job's plan as the queries take them: the plan, each item's area as its part of the area list, whatever stands behind, and no query refuses it.
use Prim.Native.Nat.{ℕ, suc, ◌+◌, ◌-◌, ◌*◌, ◌%◌, ◌≤◌, ◌<◌}
use native.Mathlib.Omega.{arith}
use mathlib.Core.Path.{◌≡◌, refl, sym, ap, ◌∙◌}
use mathlib.Core.Option.{Option, some, none}
use mathlib.Core.List.{List, ◌∷◌, ◌++◌}
use lib.ListN.{length, get_or, length-append, get_or-append}
use Rattle.words.specs.Rows.{field, tabulate, flat}
use Rattle.words.specs.Widths.{item_width, item_cell, item_present, item_first, item_ranges, range_width, range_count}
use Rattle.words.proofs.FlatLaws.{flat_length, flat_at}
use Rattle.ranges.specs.declared.Range.{Range}
use Rattle.ranges.specs.Forms.{areas_of}
use Rattle.fitting.specs.Wants.{Want, want_at}
use Rattle.fitting.specs.Plan.{Plan}
use Rattle.fitting.specs.Queries.{part_of}
use Rattle.areas.specs.Job.{ranges_in, ranges_of}
use Rattle.area_tables.specs.Tables.{area_rows}
use Rattle.area_tables.proofs.RowLaws.{ranges_below}
use Rattle.area_tables.proofs.PartLaws.{areas_long, part_is_area}
use Rattle.item_lists.specs.Lists.{item_row}
use Rattle.item_lists.proofs.TableLaws.{row_long}
use Rattle.queries.proofs.SeenLaws.{RowsHold, room_at, item_of}
use Rattle.wants.specs.Entry.{cell_rows}
use Rattle.wants.proofs.ListLaws.{cells_long}
use Rattle.wants.proofs.SeenLaws.{cells_seen}
use Rattle.job_answers.specs.Answers.{item_rows}

module _ (A : ℕ → Option (List Range)) (n : ℕ) (p : Plan) where
  abbrev row : ℕ → List ℕ
  row i = p.cell i ∷ item_row (ranges_of (tabulate i A)) (A i)

  wide : (i : ℕ) → i < n → length (row i) ≡ 4
  wide i h = ap (λ (k : ℕ). suc k) (row_long (ranges_of (tabulate i A)) (A i))

  pub items_long : length (item_rows n A p) ≡ item_width * n
  items_long = flat_length 4 n row wide

  module _ (i : ℕ) (h : i < n) where
    pub field_is : (f : ℕ) → f < 4 → (a : Option (List Range)) → A i ≡ a → field item_width (item_rows n A p) i f ≡ get_or (p.cell i ∷ item_row (ranges_of (tabulate i A)) a) f 0
    field_is f k a e = flat_at 4 n row wide i f h k ∙ ap (λ (x : Option (List Range)). get_or (p.cell i ∷ item_row (ranges_of (tabulate i A)) x) f 0) e

    -- item i's row, with whatever stands behind the rows
    pub field_listed : (old : List ℕ) (f : ℕ) → f < 4 → field item_width (item_rows n A p ++ old) i f ≡ get_or (row i) f 0
    field_listed old f k = get_or-append (item_rows n A p) old 0 (item_width * i + f) (omega (arith, items_long)) ∙ field_is f k (A i) refl

    pub cell_listed : (old : List ℕ) → item_cell (item_rows n A p ++ old) i ≡ p.cell i
    cell_listed old = field_listed old 0 (omega arith)

    -- the part that its row names is its area
    pub area_listed : (more : List ℕ) (a : Option (List Range)) → A i ≡ a
        → part_of (areas_of (area_rows n A ++ more)) (item_present (item_rows n A p) i) (item_first (item_rows n A p) i) (item_ranges (item_rows n A p) i) ≡ a
    area_listed more none e = rw (field_is 1 (omega arith) none e) refl
    area_listed more (some rs) e =
        rw (field_is 1 (omega arith) (some rs) e, field_is 2 (omega arith) (some rs) e, field_is 3 (omega arith) (some rs) e) (ap (λ (l : List Range). some l) (part_is_area A i n h rs e more))

    part_inside : (a : Option (List Range)) → A i ≡ a → (item_present (item_rows n A p) i ≡ 0 → ⊥) → item_first (item_rows n A p) i + item_ranges (item_rows n A p) i ≤ ranges_of (tabulate n A)
    part_inside none e d = absurd (d (field_is 1 (omega arith) none e))
    part_inside (some rs) e d =
        let y = field_is 2 (omega arith) (some rs) e in
        let z = field_is 3 (omega arith) (some rs) e in
        let b = ranges_below A i n h in
        let c : ranges_in (A i) ≡ length rs = ap ranges_in e in
        omega arith

  -- the rows of a plan of n items, `locals` of them locals
  module _ (ws : List Want) (areas_are : (i : ℕ) → i < n → (want_at ws i).area ≡ A i)
      (known : (i : ℕ) → i < n → p.cell i < length p.cells) (few : length p.cells ≤ n)
      (locals : ℕ) (locals_in : locals ≤ n) (few_locals : locals ≤ 2048) (few_slots : n - locals ≤ 2048)
      (more : List ℕ) (whole : length (area_rows n A ++ more) % range_width ≡ 0) (short : range_count (area_rows n A ++ more) ≤ 65536) where
    pub rows_held : RowsHold (cell_rows p) (item_rows n A p) (area_rows n A ++ more) locals (length p.cells) n (room_at p) (item_of ws p)
    rows_held = record {
      cells_long = cells_long p;
      items_long = items_long;
      areas_whole = whole;
      areas_short = short;
      locals_in = locals_in;
      few_locals = few_locals;
      few_slots = few_slots;
      few_cells = few;
      room_is = cells_seen p;
      cell_is = λ i h. field_is i h 0 (omega arith) (A i) refl;
      named = known;
      area_is = λ i h. area_listed i h more (A i) refl ∙ sym (areas_are i h);
      inside = λ i h d. omega (arith, part_inside i h (A i) refl d, areas_long n A, length-append (area_rows n A) more);
    }
