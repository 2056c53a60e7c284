-- The answer lists' rows, by the tables that fitting leaves.
use Prim.Native.Nat.{ℕ, suc, ◌+◌, ◌*◌, ◌^◌, ◌≤◌, ◌<◌}
use native.Mathlib.Omega.{arith}
use mathlib.Core.Path.{◌≡◌, refl, sym, ap, ◌∙◌}
use mathlib.Core.Option.{Option}
use mathlib.Core.List.{List, ◌∷◌, ◌++◌}
use lib.IntN.{ℤ}
use lib.ListN.{length, get_or, drop}
use Rattle.refusals.specs.declared.Refusal.{Refusal}
use Rattle.refusals.specs.declared.Refusal.TheVariants.{List as ListWord}
use Rattle.refusals.proofs.Laws.{first_fine, first_bad}
use Rattle.words.specs.Rows.{tabulate, flat}
use Rattle.words.specs.Widths.{cell_width, item_width, range_width, range_count}
use Rattle.words.proofs.RowLaws.{length_tabulate, tabulate_eq}
use Rattle.words.proofs.FlatLaws.{flat_length}
use Rattle.ranges.specs.declared.Range.{Range}
use Rattle.fitting.specs.Wants.{order_of}
use Rattle.fitting.specs.Plan.{Plan}
use Rattle.fitting.specs.Queries.{Room}
use Rattle.fitting.specs.Layout.{rooms_in, depth_of, offsets_of, layout_verdict}
use Rattle.fitting.proofs.OrderLaws.{order_names}
use Rattle.fitting.proofs.PlanLaws.{facts}
use Rattle.fit_tables.specs.Inner.{tables_at, cell_table, cell_rows_in, Made}
use Rattle.fit_layout.specs.Inner.{rooms_at}
use Rattle.fit_tables.specs.declared.Counts.{Counts}
use Rattle.areas.specs.Job.{ranges_of, areas_verdict}
use Rattle.area_measure.specs.Inner.Locals.{word_of, ListedBy}
use Rattle.answer_rows.specs.Inner.{rows_in}
use Rattle.area_tables.specs.Tables.{area_rows}
use Rattle.area_tables.specs.Inner.{listing}
use Rattle.area_tables.proofs.RowLaws.{ranges_below, rows_areas, rows_long}
use Rattle.wants.proofs.ListLaws.{cells_told, offsets_told, counts_told, layout_told}
use Rattle.item_lists.specs.Lists.{item_row}
use Rattle.item_lists.proofs.TableLaws.{word_row, row_long, list_full, list_fine}
use Rattle.job_fit.specs.Inner.{count_of, want_for, wants_for, plan_for, Ready, FittedFor}
use Rattle.job_answers.specs.Answers.{item_rows, answer_verdict, AnsweredBy}
use Rattle.job_tables.specs.Inner.{row_of, rows_of, Listable, Written}
use Rattle.job_answers.specs.Inner.{Measured}
use Rattle.refusals.specs.Verdicts.{Bad, Fine}
use Rattle.refusals.specs.declared.Refused.{Refused}
use Rattle.wants.specs.declared.Tally.{Tally}
use Rattle.std.specs.Prelude.{Ok, Err, Result}

-- number 9
pub refused_list : (A : ℕ → Option (List Range)) (p : Plan) (count room n : ℕ) (w : List ℕ) → ListedBy word_of (listing room room) A count n w → room < n
    → (cells items areas : List ℕ) (offsets : List ℤ) → AnsweredBy (answer_verdict count A room p) count A p cells items areas offsets (Err (ListWord, 0)) cells items areas offsets
refused_list A p count room n w D h cells items areas offsets =
    rw (first_bad (areas_verdict count A room) (layout_verdict (rooms_in p)) ListWord 0 (list_full A count room n w D h)) (record { answer = refl; in_cells = refl; in_items = refl; in_areas = refl; in_offsets = refl })

-- what fitting asks
pub ready : {n room total end cells items offsets : ℕ} {w : List ℕ} → Measured n room total end cells items offsets w → total ≤ room → Ready n room end w
ready {total = total} M fits = record {
  total = total;
  area = M.area;
  listed = M.listed;
  fits = fits;
  apart = M.apart;
  few = M.few;
  short = M.short;
  space = M.space;
  inside = M.inside;
  small = M.small;
}

-- the answer lists, by a plan that the tables hold
module _ (A : ℕ → Option (List Range)) (p : Plan) (n room total : ℕ) (w : List ℕ) (r : Counts) (M : Made p n room w r) (D : ListedBy word_of (listing room room) A n total w) (fits : total ≤ room) (short : room ≤ 65536) (in_work : room + n ≤ length w) where
  -- 9 is not given
  verdict_is : answer_verdict n A room p ≡ layout_verdict (rooms_in p)
  verdict_is = first_fine (areas_verdict n A room) (layout_verdict (rooms_in p)) (list_fine A n room total w D fits short in_work)

  pub refused_layout : (k : Refusal) (i : ℕ) → Bad k i ≡ layout_verdict (rooms_at w (cell_table (tables_at room n)) r.cells) → (cells items areas : List ℕ) (offsets : List ℤ)
      → AnsweredBy (answer_verdict n A room p) n A p cells items areas offsets (Err (k, i)) cells items areas offsets
  refused_layout k i e cells items areas offsets = rw (verdict_is ∙ layout_told M e) (record { answer = refl; in_cells = refl; in_items = refl; in_areas = refl; in_offsets = refl })

  items_are : rows_of w room (room + 6 * n) n ≡ item_rows n A p
  items_are = ap flat (tabulate_eq n (λ i. row_of (get_or w (room + 6 * n + i) 0) (get_or w (room + i) 0)) (λ i. p.cell i ∷ item_row (ranges_of (tabulate i A)) (A i)) row)
    where
      row : (i : ℕ) → i < n → row_of (get_or w (room + 6 * n + i) 0) (get_or w (room + i) 0) ≡ p.cell i ∷ item_row (ranges_of (tabulate i A)) (A i)
      row i h =
          ap (λ (c : ℕ). row_of c (get_or w (room + i) 0)) (M.shown.cell i h)
          ∙ ap (λ (l : List ℕ). p.cell i ∷ l) (word_row (get_or w (room + i) 0) (ranges_of (tabulate i A)) (A i) (D.items i h) (omega (arith, ranges_below A i n h, D.total_is)))

  items_long : length (item_rows n A p) ≡ item_width * n
  items_long = flat_length 4 n (λ i. p.cell i ∷ item_row (ranges_of (tabulate i A)) (A i)) (λ i h. ap (λ (k : ℕ). suc k) (row_long (ranges_of (tabulate i A)) (A i)))

  areas_are : rows_in w 0 total 0 ≡ area_rows n A
  areas_are = rows_areas n A w total (omega arith) (D.areas fits)

  areas_long : length (area_rows n A) ≡ range_width * total
  areas_long = ap length (sym areas_are) ∙ rows_long w 0 total 0

  pub given_list : (cells items areas cells' items' areas' : List ℕ) (offsets offsets' : List ℤ) (d : ℕ) → room ≡ range_count areas → Written cells items areas w n r.cells total cells' items' areas'
      → Fine ≡ layout_verdict (rooms_at w (cell_table (tables_at room n)) r.cells) → d ≡ depth_of (rooms_at w (cell_table (tables_at room n)) r.cells)
      → offsets' ≡ offsets_of (rooms_at w (cell_table (tables_at room n)) r.cells) ++ drop r.cells offsets
      → AnsweredBy (answer_verdict n A room p) n A p cells items areas offsets (Ok (record { cells = r.cells; probes = r.probes; depth = d })) cells' items' areas' offsets'
  given_list cells items areas cells' items' areas' offsets offsets' d e W v D' O = rw (verdict_is ∙ layout_told M v) (record {
    answer = counts_told M D';
    in_cells = cells_told M cells (W.in_cells ∙ ap (λ (k : ℕ). cell_rows_in w (cell_table (tables_at k n)) r.cells ++ drop (cell_width * r.cells) cells) (sym e));
    in_items = items-told ∙ ap (λ (l : List ℕ). l ++ drop (item_width * n) items) items_are ∙ ap (λ (k : ℕ). item_rows n A p ++ drop k items) (sym items_long);
    in_areas = W.in_areas ∙ ap (λ (l : List ℕ). l ++ drop (range_width * total) areas) areas_are ∙ ap (λ (k : ℕ). area_rows n A ++ drop k areas) (sym areas_long);
    in_offsets = offsets_told M offsets O;
  })
    where
      items-told : items' ≡ rows_of w room (room + 6 * n) n ++ drop (item_width * n) items
      items-told = W.in_items ∙ ap (λ (k : ℕ). rows_of w k (k + 6 * n) n ++ drop (item_width * n) items) (sym e)

-- after fitting: room for the lists, and the lists
module _ (locals slots : List ℕ) (budget total end : ℕ) (cells items areas : List ℕ) (offsets : List ℤ) (w₀ w : List ℕ) (r : Counts)
    (M : Measured (count_of locals slots) (range_count areas) total end (length cells) (length items) (length offsets) w₀) (fits : total ≤ range_count areas)
    (F : FittedFor locals slots budget (range_count areas) end w₀ w r) where
  -- a cell's number is small
  cell_small : (i : ℕ) → i < count_of locals slots → get_or w (range_count areas + 6 * count_of locals slots + i) 0 < 2 ^ 32
  cell_small i h =
      let ws = wants_for locals slots M.area in
      let k = (facts ws budget (length ws) (order_of ws) (order_names ws)).known i (rw (length_tabulate (count_of locals slots) (want_for locals slots M.area)) h) in
      let H = F.plan M.area total M.listed fits in
      omega (arith, H.shown.cell i h, H.cells, F.few, M.few, k)

  pub listable : Listable (length cells) (length items) (length areas) w (count_of locals slots) r.cells total
  listable = record {
    few = M.few;
    short = M.short;
    in_cells = omega (arith, F.few, M.in_cells);
    used_few = F.few;
    in_items = M.in_items;
    in_areas = fits;
    in_work = omega (arith, M.space, M.inside, F.kept.len);
    small = cell_small;
  }

  -- the cells' words are in the work space
  pub cells_in : range_count areas + 5 * count_of locals slots + r.cells ≤ length w
  cells_in = omega (arith, F.few, M.space, M.inside, F.kept.len)

  pub cells_few : r.cells ≤ length offsets
  cells_few = omega (arith, F.few, M.in_offsets)

  module _ (A : ℕ → Option (List Range)) (D : ListedBy word_of (listing (range_count areas) (range_count areas)) A (count_of locals slots) total w₀) where
    abbrev Told : (Result Tally Refused) → List ℕ → List ℕ → List ℕ → List ℤ → Type 0
    Told = AnsweredBy (answer_verdict (count_of locals slots) A (range_count areas) (plan_for locals slots A budget)) (count_of locals slots) A (plan_for locals slots A budget) cells items areas offsets

    abbrev words : List Room
    words = rooms_at w (cell_table (tables_at (range_count areas) (count_of locals slots))) r.cells

    pub refused_list_layout : (k : Refusal) (i : ℕ) → Bad k i ≡ layout_verdict words → Told (Err (k, i)) cells items areas offsets
    refused_list_layout k i e =
        refused_layout A (plan_for locals slots A budget) (count_of locals slots) (range_count areas) total w r (F.plan A total D fits) (F.listed A total D fits) fits M.short
        (omega (arith, M.space, M.inside, F.kept.len)) k i e cells items areas offsets

    pub answered_list : {cells' items' areas' : List ℕ} {offsets' : List ℤ} {d : ℕ} → Written cells items areas w (count_of locals slots) r.cells total cells' items' areas'
        → Fine ≡ layout_verdict words → d ≡ depth_of words → offsets' ≡ offsets_of words ++ drop r.cells offsets
        → Told (Ok (record { cells = r.cells; probes = r.probes; depth = d })) cells' items' areas' offsets'
    answered_list {cells'} {items'} {areas'} {offsets'} {d} W v e O =
        given_list A (plan_for locals slots A budget) (count_of locals slots) (range_count areas) total w r (F.plan A total D fits) (F.listed A total D fits) fits M.short
        (omega (arith, M.space, M.inside, F.kept.len)) cells items areas cells' items' areas' offsets offsets' d refl W v e O
