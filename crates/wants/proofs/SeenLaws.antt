-- The rows that fitting alone writes, as the queries take them: the plan of the wants, and no query refuses it.
use Prim.Native.Nat.{ℕ, ◌+◌, ◌*◌, ◌≤◌, ◌<◌}
use native.Mathlib.Omega.{arith}
use native.Mathlib.Decide.{ℕ_discrete}
use mathlib.Core.Path.{◌≡◌, refl, ap, sym, subst, ◌∙◌}
use mathlib.Core.Bool.{Bool, true, false, cond}
use mathlib.Core.Option.{some, none}
use mathlib.Core.List.{List, [], ◌∷◌, ◌++◌}
use lib.IntN.{ℤ, pos}
use lib.ListN.{length, get_or, take, drop, get_or-append}
use lib.Seq.{take_at}
use lib.Dec.{eqb}
use borrow.Author.Tests.{eq-eqb, ne_eqb}
use Rattle.refusals.specs.Outcomes.{Outcome, given, refused, unless, after}
use Rattle.refusals.proofs.Laws.{first_left, first_right}
use Rattle.words.specs.Rows.{field}
use Rattle.words.specs.Widths.{cell_width, cell_size, cell_align, item_width, item_cell, item_present, item_first, item_ranges, range_width, range_count, want_width, want_count, want_present, want_first, want_ranges}
use Rattle.words.proofs.RowLaws.{length_records, get_d_records, get_d_tabulate}
use Rattle.words.proofs.FlatLaws.{flat_length, flat_at}
use Rattle.fitting.specs.Wants.{Want, want_at, order_of}
use Rattle.fitting.specs.Plan.{Plan, cell_at}
use Rattle.fitting.specs.Lowest.{PutLowest}
use Rattle.ranges.specs.Forms.{areas_of}
use Rattle.fitting.specs.Queries.{Room, room_in, part_of, answered}
use Rattle.fitting.specs.Layout.{room_by, rooms_in, depth_at, depth_of, offset_of, layout_verdict, laid_verdict, LaidOut, RowsLaid}
use Rattle.fitting.proofs.LayoutLaws.{laid_out, laid_as, layout_positive}
use Rattle.fitting.proofs.OrderLaws.{order_names, length_ordered}
use Rattle.fitting.proofs.PlanLaws.{facts}
use Rattle.fitting.proofs.PutLaws.{plan_few, put_lowest}
use Rattle.queries.specs.Seen.{PlanSeen}
use Rattle.queries.proofs.SeenLaws.{RowsHold, room_at, item_of, answered_seen, cut_held}
use Rattle.want_checks.specs.Checks.{verdict, bad_want}
use Rattle.want_checks.proofs.CheckLaws.{granted, counts_fine}
use Rattle.range_walk.proofs.PartLaws.{part_fine, areas_length}
use Rattle.fit_tables.specs.WantTables.{item_row}
use Rattle.fit_tables.proofs.WantLaws.{item_wide, row_absent, row_present}
use Rattle.wants.specs.Entry.{wants_of, plan_for, tallied, tally_of, cell_rows, item_rows, cell_offsets, FittedAlone}
use Rattle.wants.specs.Inner.{cell_row}
use Rattle.wants.proofs.ListLaws.{rows_cells, rooms_cells, rooms_count, cells_long, offsets_long}
use Rattle.wants.proofs.TallyLaws.{not_refused}
use Rattle.refusals.specs.Verdicts.{Fine, Verdict}
use Rattle.std.specs.Prelude.{Ok}
use Rattle.wants.specs.declared.Tally.{Tally}

-- ---- a plan's cell rows

pub cells_seen : (p : Plan) (i : ℕ) → i < length p.cells → record { size = cell_size (cell_rows p) i; align = cell_align (cell_rows p) i } ≡ room_at p i
cells_seen p i h =
    let at : (f : ℕ) → f < 2 → field cell_width (cell_rows p) i f ≡ get_or (cell_row (cell_at p.cells i)) f 0 = λ f k.
    ap (λ (l : List ℕ). field cell_width l i f) (rows_cells p.cells) ∙ flat_at 2 (length p.cells) (λ j. cell_row (cell_at p.cells j)) (λ j q. refl) i f h k in
    two (at 0 (omega arith)) (at 1 (omega arith))
  where
    two : {x y a b : ℕ} → x ≡ a → y ≡ b → ◌≡◌ {A = Room} (record { size = x; align = y }) (record { size = a; align = b })
    two e f = rw (e, f) refl

-- ---- the answer of a call

abbrev held_tally : Outcome Tally → Tally
held_tally (given t) = t
held_tally (refused n i) = record { cells = 0; probes = 0; depth = 0 }

-- the front of a list that an answer was written to
pub front_is : (new old : List ℕ) (n : ℕ) → length new ≡ n → take n (new ++ drop (length new) old) ≡ new
front_is new old n e = take_at new (drop (length new) old) n e

-- the counts that a plan's answer tells are the plan's
pub told_tally : (v : Verdict) (q : Plan) (t : Tally) → given t ≡ tally_of (unless v q) → t ≡ tallied q
told_tally v q t e = ap held_tally (e ∙ ap (λ (x : Verdict). tally_of (unless x q)) (not_refused v q t e))

-- ---- fitting alone

module _ (wants areas : List ℕ) (locals budget : ℕ) where
  abbrev ws : List Want
  ws = wants_of (areas_of areas) wants

  abbrev P : Plan
  P = plan_for wants areas budget

  pub wants_long : length ws ≡ want_count wants
  wants_long = length_records want_width (λ f. record { size = f 0; align = f 1; area = part_of (areas_of areas) (f 2) (f 3) (f 4) }) wants

  abbrev row : ℕ → List ℕ
  row i = item_row (P.cell i) (want_present wants i) (want_first wants i) (want_ranges wants i)

  row_long : (i : ℕ) → i < want_count wants → length (row i) ≡ 4
  row_long i h = item_wide (P.cell i) (want_present wants i) (want_first wants i) (want_ranges wants i)

  items_long : length (item_rows wants P) ≡ item_width * want_count wants
  items_long = flat_length 4 (want_count wants) row row_long

  module _ (i : ℕ) (h : i < want_count wants) where
    field_at : (f : ℕ) → f < 4 → field item_width (item_rows wants P) i f ≡ get_or (row i) f 0
    field_at f k = flat_at 4 (want_count wants) row row_long i f h k

    cell_first : (t : Bool) → get_or (cond t (P.cell i ∷ 0 ∷ 0 ∷ 0 ∷ []) (P.cell i ∷ 1 ∷ want_first wants i ∷ want_ranges wants i ∷ [])) 0 0 ≡ P.cell i
    cell_first true = refl
    cell_first false = refl

    pub cell_listed : item_cell (item_rows wants P) i ≡ P.cell i
    cell_listed = field_at 0 (omega arith) ∙ cell_first (eqb (want_present wants i) 0)

    area_here : (want_at ws i).area ≡ part_of (areas_of areas) (want_present wants i) (want_first wants i) (want_ranges wants i)
    area_here = ap (λ (w : Want). w.area) (get_d_records want_width (λ f. record { size = f 0; align = f 1; area = part_of (areas_of areas) (f 2) (f 3) (f 4) }) wants i (record { size = 0; align = 0; area = none }) h)

    -- a row says what its want says
    absent : want_present wants i ≡ 0 → item_present (item_rows wants P) i ≡ 0
    absent e = field_at 1 (omega arith) ∙ ap (λ (l : List ℕ). get_or l 1 0) (row_absent (P.cell i) (want_present wants i) (want_first wants i) (want_ranges wants i) e)

    module _ (d : want_present wants i ≡ 0 → ⊥) where
      present : (f : ℕ) → f < 4 → field item_width (item_rows wants P) i f ≡ get_or (P.cell i ∷ 1 ∷ want_first wants i ∷ want_ranges wants i ∷ []) f 0
      present f k = field_at f k ∙ ap (λ (l : List ℕ). get_or l f 0) (row_present (P.cell i) (want_present wants i) (want_first wants i) (want_ranges wants i) d)

    area_seen : part_of (areas_of areas) (item_present (item_rows wants P) i) (item_first (item_rows wants P) i) (item_ranges (item_rows wants P) i) ≡ (want_at ws i).area
    area_seen = go (ℕ_discrete (want_present wants i) 0) ∙ sym area_here
      where
        go : Dec (want_present wants i ≡ 0) → part_of (areas_of areas) (item_present (item_rows wants P) i) (item_first (item_rows wants P) i) (item_ranges (item_rows wants P) i) ≡ part_of (areas_of areas) (want_present wants i) (want_first wants i) (want_ranges wants i)
        go (yes e) =
            ap (λ (t : Bool). cond t none (some (take (item_ranges (item_rows wants P) i) (drop (item_first (item_rows wants P) i) (areas_of areas))))) (eq-eqb (item_present (item_rows wants P) i) 0 (absent e))
            ∙ sym (ap (λ (t : Bool). cond t none (some (take (want_ranges wants i) (drop (want_first wants i) (areas_of areas))))) (eq-eqb (want_present wants i) 0 e))
        go (no d) =
            ap (λ (t : Bool). cond t none (some (take (item_ranges (item_rows wants P) i) (drop (item_first (item_rows wants P) i) (areas_of areas))))) (ne_eqb (item_present (item_rows wants P) i) 0 (λ z. absurd (omega (arith, present d 1 (omega arith)))))
            ∙ ap (λ (k : ℕ). some (take k (drop (item_first (item_rows wants P) i) (areas_of areas)))) (present d 3 (omega arith))
            ∙ ap (λ (k : ℕ). some (take (want_ranges wants i) (drop k (areas_of areas)))) (present d 2 (omega arith))
            ∙ sym (ap (λ (t : Bool). cond t none (some (take (want_ranges wants i) (drop (want_first wants i) (areas_of areas))))) (ne_eqb (want_present wants i) 0 d))

    inside_at : bad_want (areas_of areas) wants i ≡ false → (item_present (item_rows wants P) i ≡ 0 → ⊥) → item_first (item_rows wants P) i + item_ranges (item_rows wants P) i ≤ range_count areas
    inside_at f q = go (ℕ_discrete (want_present wants i) 0)
      where
        go : Dec (want_present wants i ≡ 0) → item_first (item_rows wants P) i + item_ranges (item_rows wants P) i ≤ range_count areas
        go (yes e) = absurd (q (absent e))
        go (no d) =
            let a = (part_fine (areas_of areas) (want_present wants i) (want_first wants i) (want_ranges wants i) f d).0 in
            omega (arith, areas_length areas, present d 2 (omega arith), present d 3 (omega arith))

  -- ---- the rows that are written where nothing is refused

  module _ (cells items offsets work : ℕ) (fine : verdict wants areas locals budget cells items offsets work ≡ Fine) where
    rows_held : RowsHold (cell_rows P) (item_rows wants P) areas locals (length P.cells) (want_count wants) (room_at P) (item_of ws P)
    rows_held =
        let G = granted wants areas locals budget cells items offsets work fine in
        let C = counts_fine wants areas locals budget cells items offsets work fine in
        let F = facts ws budget (length ws) (order_of ws) (order_names ws) in
        record {
          cells_long = cells_long P;
          items_long = items_long;
          areas_whole = C.whole_areas;
          areas_short = G.short;
          locals_in = C.locals_in;
          few_locals = C.few_locals;
          few_slots = C.few_slots;
          few_cells = omega (arith, plan_few ws budget (order_of ws), length_ordered ws (length ws), wants_long);
          room_is = cells_seen P;
          cell_is = cell_listed;
          named = λ i h. F.known i (rw wants_long h);
          area_is = area_seen;
          inside = λ i h. inside_at i h (G.fine i h);
        }

-- ---- the layout of a plan that is not refused, in its rows and offsets, whatever stands behind them

module _ (p : Plan) (fine : layout_verdict (rooms_in p) ≡ Fine) (cells : List ℕ) (offsets : List ℤ) where
  room_is : (n : ℕ) → n < length p.cells → room_by (rooms_in p) n ≡ room_at p n
  room_is n h = ap (λ (l : List Room). room_by l n) (rooms_cells p.cells) ∙ get_d_tabulate (length p.cells) (λ i. room_in (cell_at p.cells i)) n (record { size = 0; align = 0 }) h

  field_is : (f : ℕ) → f < 2 → (n : ℕ) → n < length p.cells → field cell_width (cell_rows p ++ cells) n f ≡ field cell_width (cell_rows p) n f
  field_is f k n h = get_or-append (cell_rows p) cells 0 (cell_width * n + f) (omega (arith, cells_long p))

  row_is : (n : ℕ) → n < length p.cells → record { size = cell_size (cell_rows p) n; align = cell_align (cell_rows p) n } ≡ room_by (rooms_in p) n
  row_is n h = cells_seen p n h ∙ sym (room_is n h)

  offset_is : (n : ℕ) → n < length p.cells → get_or (cell_offsets p ++ offsets) n (pos 0) ≡ offset_of (depth_at (rooms_in p) n)
  offset_is n h =
      get_or-append (cell_offsets p) offsets (pos 0) n (omega (arith, offsets_long p))
      ∙ get_d_tabulate (length (rooms_in p)) (λ i. offset_of (depth_at (rooms_in p) i)) n (pos 0) (omega (arith, rooms_count p))

  pub rows_laid : RowsLaid (length p.cells) (cell_rows p ++ cells) (cell_offsets p ++ offsets) (depth_of (rooms_in p))
  rows_laid =
      laid_as (subst (λ (k : ℕ). LaidOut k (λ n. (room_by (rooms_in p) n).size) (λ n. (room_by (rooms_in p) n).align) (λ n. offset_of (depth_at (rooms_in p) n)) (depth_of (rooms_in p))) (rooms_count p)
      (laid_out (rooms_in p) (layout_positive (rooms_in p) fine)))
      (λ n h. field_is 0 (omega arith) n h ∙ ap (λ (r : Room). r.size) (row_is n h))
      (λ n h. field_is 1 (omega arith) n h ∙ ap (λ (r : Room). r.align) (row_is n h))
      offset_is

-- what a call wrote
module _ (locals budget : ℕ) {wants areas cells items work cells' items' work' : List ℕ} {offsets offsets' : List ℤ} {c p d : ℕ}
    (E : FittedAlone wants areas (verdict wants areas locals budget (length cells) (length items) (length offsets) (length work)) (plan_for wants areas budget) cells items offsets work (Ok (record { cells = c; probes = p; depth = d })) cells' items' offsets' work') where
  whole : laid_verdict (verdict wants areas locals budget (length cells) (length items) (length offsets) (length work)) (plan_for wants areas budget) ≡ Fine
  whole =
      not_refused (laid_verdict (verdict wants areas locals budget (length cells) (length items) (length offsets) (length work)) (plan_for wants areas budget)) (plan_for wants areas budget)
      (record { cells = c; probes = p; depth = d }) E.lists.answer

  fine : verdict wants areas locals budget (length cells) (length items) (length offsets) (length work) ≡ Fine
  fine = first_left _ (layout_verdict (rooms_in (plan_for wants areas budget))) whole

  tally_is : record { cells = c; probes = p; depth = d } ≡ tallied (plan_for wants areas budget)
  tally_is =
      told_tally (laid_verdict (verdict wants areas locals budget (length cells) (length items) (length offsets) (length work)) (plan_for wants areas budget)) (plan_for wants areas budget)
      (record { cells = c; probes = p; depth = d }) E.lists.answer

  count_is : c ≡ length (plan_for wants areas budget).cells
  count_is = ap (λ (t : Tally). t.cells) tally_is

  cells_whole : cells' ≡ cell_rows (plan_for wants areas budget) ++ drop (length (cell_rows (plan_for wants areas budget))) cells
  cells_whole = E.lists.in_cells ∙ ap (λ (v : Verdict). after (unless v (plan_for wants areas budget)) cell_rows cells) whole

  offsets_whole : offsets' ≡ cell_offsets (plan_for wants areas budget) ++ drop (length (cell_offsets (plan_for wants areas budget))) offsets
  offsets_whole = E.lists.in_offsets ∙ ap (λ (v : Verdict). after (unless v (plan_for wants areas budget)) cell_offsets offsets) whole

  -- the offsets that fitting alone wrote, by the cells and the depth that it wrote: each a multiple of its cell's alignment, no byte in two cells
  pub fit_laid : RowsLaid c cells' offsets' d
  fit_laid =
      rw (cells_whole, offsets_whole, count_is, ap (λ (t : Tally). t.depth) tally_is)
      (rows_laid (plan_for wants areas budget) (first_right _ (layout_verdict (rooms_in (plan_for wants areas budget))) whole) _ _)

  cells_are : take (cell_width * c) cells' ≡ cell_rows (plan_for wants areas budget)
  cells_are =
      ap (take (cell_width * c)) cells_whole
      ∙ front_is (cell_rows (plan_for wants areas budget)) cells (cell_width * c) (omega (arith, cells_long (plan_for wants areas budget), count_is))

  items_whole : items' ≡ item_rows wants (plan_for wants areas budget) ++ drop (length (item_rows wants (plan_for wants areas budget))) items
  items_whole = E.lists.in_items ∙ ap (λ (v : Verdict). after (unless v (plan_for wants areas budget)) (item_rows wants) items) whole

  items_are : take (item_width * want_count wants) items' ≡ item_rows wants (plan_for wants areas budget)
  items_are = ap (take (item_width * want_count wants)) items_whole ∙ front_is (item_rows wants (plan_for wants areas budget)) items (item_width * want_count wants) (items_long wants areas locals budget)

  -- the rows that stand there hold the plan
  pub held : RowsHold (take (cell_width * c) cells') (take (item_width * want_count wants) items') areas locals (length (plan_for wants areas budget).cells) (want_count wants) (room_at (plan_for wants areas budget)) (item_of (wants_of (areas_of areas) wants) (plan_for wants areas budget))
  held = rw (cells_are, items_are) (rows_held wants areas locals budget (length cells) (length items) (length offsets) (length work) fine)

  -- the plan that fitting alone wrote: each query of it is the definition's of the plan of these wants, and none refuses it
  pub fit_seen : PlanSeen (answered (wants_of (areas_of areas) wants) locals (plan_for wants areas budget)) locals (take (cell_width * c) cells') (take (item_width * want_count wants) items') areas
  fit_seen = answered_seen (wants_of (areas_of areas) wants) (plan_for wants areas budget) (wants_long wants areas locals budget) held

  -- and with the area list cut behind the last part
  pub fit_seen_cut : (k : ℕ) → k ≤ range_count areas
      → ((i : ℕ) → i < want_count wants → (item_present (take (item_width * want_count wants) items') i ≡ 0 → ⊥) → item_first (take (item_width * want_count wants) items') i + item_ranges (take (item_width * want_count wants) items') i ≤ k)
      → PlanSeen (answered (wants_of (areas_of areas) wants) locals (plan_for wants areas budget)) locals (take (cell_width * c) cells') (take (item_width * want_count wants) items') (take (range_width * k) areas)
  fit_seen_cut k h ends = answered_seen (wants_of (areas_of areas) wants) (plan_for wants areas budget) (wants_long wants areas locals budget) (cut_held held k h ends)

  -- each item's row names the lowest fitting cell of those that there were when it was put in
  pub fit_lowest : PutLowest (wants_of (areas_of areas) wants) budget (order_of (wants_of (areas_of areas) wants)) (λ i. item_cell items' i)
  fit_lowest =
      put_lowest (wants_of (areas_of areas) wants) budget (length (wants_of (areas_of areas) wants)) (order_of (wants_of (areas_of areas) wants)) (order_names (wants_of (areas_of areas) wants)) (λ i. item_cell items' i)
      (λ i h.
      let l = items_long wants areas locals budget in
      let k : i < want_count wants = omega (arith, wants_long wants areas locals budget) in
      ap (λ (s : List ℕ). item_cell s i) items_whole
      ∙ get_or-append (item_rows wants (plan_for wants areas budget)) (drop (length (item_rows wants (plan_for wants areas budget))) items) 0 (item_width * i + 0) (omega arith)
      ∙ cell_listed wants areas locals budget i k)
