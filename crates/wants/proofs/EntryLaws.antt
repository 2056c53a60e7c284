-- The entry: the answer put together.
use Prim.Native.Nat.{ℕ, ◌+◌, ◌*◌, ◌^◌, ◌≤◌, ◌<◌}
use native.Mathlib.Omega.{arith}
use mathlib.Core.Path.{◌≡◌, refl, ap, sym, ◌∙◌, subst}
use mathlib.Core.Logic.{inr}
use mathlib.Core.List.{List, ◌++◌}
use lib.IntN.{ℤ}
use lib.ListN.{length, get_or, drop, replicate, length-replicate}
use Rattle.refusals.specs.declared.Refusal.{Refusal}
use Rattle.refusals.proofs.Laws.{first_fine, first_bad}
use Rattle.words.specs.Rows.{flat}
use Rattle.words.specs.Regions.{cleared}
use Rattle.words.specs.Widths.{cell_width, item_width, range_count, want_count, want_present, want_first, want_ranges}
use Rattle.words.proofs.RowLaws.{length_tabulate, tabulate_eq}
use Rattle.words.proofs.FlatLaws.{flat_length}
use Rattle.words.proofs.RegionLaws.{drop_same}
use Rattle.ranges.specs.Forms.{areas_of}
use Rattle.fitting.specs.Wants.{Want, order_of}
use Rattle.fitting.specs.Plan.{Plan, plan_of}
use Rattle.fitting.specs.Layout.{rooms_in, depth_of, offsets_of, layout_verdict, laid_verdict}
use Rattle.fitting.proofs.PlanLaws.{facts}
use Rattle.fitting.proofs.OrderLaws.{order_names}
use Rattle.fit_tables.specs.Inner.{tables_at, cell_table, home_table, want_in, wants_in, Fitted, Made, Loaded, cell_rows_in, item_rows_in}
use Rattle.fit_tables.specs.WantTables.{item_row}
use Rattle.fit_tables.specs.declared.Counts.{Counts}
use Rattle.fit_tables.specs.declared.Tables.{Tables}
use Rattle.fit_tables.proofs.WantLaws.{item_wide}
use Rattle.fit_layout.specs.Inner.{rooms_at}
use Rattle.want_checks.specs.Inner.{Granted}
use Rattle.wants.specs.Entry.{wants_of, plan_for, item_rows, PlanListed, FittedAlone}
use Rattle.wants.specs.Inner.{tables_for, Listable}
use Rattle.wants.proofs.ListLaws.{cells_told, offsets_told, counts_told, layout_told}
use Rattle.refusals.specs.Verdicts.{Bad, Fine, Verdict}
use Rattle.refusals.specs.declared.Refused.{Refused}
use Rattle.wants.specs.declared.Tally.{Tally}
use Rattle.std.specs.Prelude.{Ok, Err, Result}

-- ---- a refusal

-- nothing is written
refused_lists : (wants : List ℕ) (v : Verdict) (p : Plan) (cells items : List ℕ) (offsets : List ℤ) (r : Refusal) (i : ℕ) → v ≡ Bad r i
    → PlanListed wants v p cells items offsets (Err (r, i)) cells items offsets
refused_lists wants v p cells items offsets r i e =
    subst (λ (x : Verdict). PlanListed wants x p cells items offsets (Err (r, i)) cells items offsets) (sym e) (record { answer = refl; in_cells = refl; in_items = refl; in_offsets = refl })

pub refused_alone : (wants areas : List ℕ) (v : Verdict) (p : Plan) (cells items : List ℕ) (offsets : List ℤ) (work : List ℕ) (r : Refusal) (i : ℕ) → v ≡ Bad r i
    → FittedAlone wants areas v p cells items offsets work (Err (r, i)) cells items offsets work
refused_alone wants areas v p cells items offsets work r i e = record {
  lists = refused_lists wants (laid_verdict v p) p cells items offsets r i (first_bad v (layout_verdict (rooms_in p)) r i e);
  in_work = rw e refl;
}

-- ---- a plan that is made

-- a cell's number is small
cell_small : {w₁ w₂ : List ℕ} {t : Tables} {budget : ℕ} {r : Counts} → Fitted w₁ w₂ t budget r → t.n ≤ 4096 → (i : ℕ) → i < t.n → get_or w₂ (home_table t + i) 0 < 2 ^ 32
cell_small {w₁} {w₂} {t} {budget} {r} F few i h =
    let ws = wants_in w₁ t in
    let k = (facts ws budget (length ws) (order_of ws) (order_names ws)).known i (rw (length_tabulate t.n (want_in w₁ t)) h) in
    omega (arith, F.shown.cell i h, F.cells, F.few, k)

module _ (wants areas : List ℕ) (cells items offsets : ℕ) (work w₁ w₂ : List ℕ) (f : Counts) (budget : ℕ) (G : Granted wants areas cells items offsets (length work))
    (L : Loaded work w₁ wants areas (want_count wants) (range_count areas)) (F : Fitted w₁ w₂ (tables_for wants areas) budget f) where
  -- room for its lists
  pub listable : Listable wants areas cells items offsets w₂ f
  listable = record {
    few = G.few;
    short = G.short;
    space = omega (arith, G.space, F.len, L.len);
    used_few = F.few;
    in_cells = G.in_cells;
    in_items = G.in_items;
    in_offsets = G.in_offsets;
    small = cell_small F G.few;
  }

  -- it is the wants' plan
  pub made : wants_in w₁ (tables_for wants areas) ≡ wants_of (areas_of areas) wants → Made (plan_for wants areas budget) (want_count wants) (range_count areas) w₂ f
  made same =
      subst (λ (ws : List Want). Made (plan_of ws budget (order_of ws)) (want_count wants) (range_count areas) w₂ f) same
      (record { cells = F.cells; probes = F.probes; shown = record { size = F.shown.size; align = F.shown.align; cell = F.shown.cell } })

  work_is : cleared (8 * (want_count wants + range_count areas)) w₂ ≡ cleared (8 * (want_count wants + range_count areas)) work
  work_is =
      ap (λ (l : List ℕ). replicate (8 * (want_count wants + range_count areas)) 0 ++ l)
      (drop_same (8 * (want_count wants + range_count areas)) work w₂ (F.len ∙ L.len) (λ x h. F.rest x (inr (omega arith)) ∙ L.rest x (omega arith)))

  pub answered : {p : Plan} {cells₀ items₀ cells' items' work' : List ℕ} {offsets₀ offsets' : List ℤ} {r : (Result Tally Refused)}
      → PlanListed wants (layout_verdict (rooms_in p)) p cells₀ items₀ offsets₀ r cells' items' offsets'
      → work' ≡ cleared (8 * (want_count wants + range_count areas)) w₂ → FittedAlone wants areas Fine p cells₀ items₀ offsets₀ work r cells' items' offsets' work'
  answered {p} {cells₀} {items₀} {cells'} {items'} {work'} {offsets₀} {offsets'} {r} A Z = record {
    lists = subst (λ (x : Verdict). PlanListed wants x p cells₀ items₀ offsets₀ r cells' items' offsets') (sym (first_fine Fine (layout_verdict (rooms_in p)) refl)) A;
    in_work = Z ∙ work_is ∙ ap (λ (k : ℕ). replicate (8 * (want_count wants + range_count areas)) 0 ++ drop k work) (sym (length-replicate (8 * (want_count wants + range_count areas)) 0));
  }

-- where nothing is refused before fitting
pub answered_alone : {wants areas : List ℕ} (v : Verdict) {p : Plan} {cells items work cells' items' work' : List ℕ} {offsets offsets' : List ℤ} {r : (Result Tally Refused)} → v ≡ Fine
    → FittedAlone wants areas Fine p cells items offsets work r cells' items' offsets' work' → FittedAlone wants areas v p cells items offsets work r cells' items' offsets' work'
answered_alone {wants} {areas} v {p} {cells} {items} {work} {cells'} {items'} {work'} {offsets} {offsets'} {r} e A =
    subst (λ (x : Verdict). FittedAlone wants areas x p cells items offsets work r cells' items' offsets' work') (sym e) A

-- ---- its lists

module _ (wants areas : List ℕ) {p : Plan} {w : List ℕ} {f : Counts} (M : Made p (want_count wants) (range_count areas) w f) (cells items : List ℕ) (offsets : List ℤ) where
  pub refused_layout : (r : Refusal) (i : ℕ) → Bad r i ≡ layout_verdict (rooms_at w (cell_table (tables_at (range_count areas) (want_count wants))) f.cells)
      → PlanListed wants (layout_verdict (rooms_in p)) p cells items offsets (Err (r, i)) cells items offsets
  refused_layout r i e = refused_lists wants (layout_verdict (rooms_in p)) p cells items offsets r i (layout_told M e)

  items_are : item_rows_in w wants (home_table (tables_at (range_count areas) (want_count wants))) (want_count wants) ≡ item_rows wants p
  items_are = ap flat (tabulate_eq (want_count wants) _ _ (λ i h. ap (λ (c : ℕ). item_row c (want_present wants i) (want_first wants i) (want_ranges wants i)) (M.shown.cell i h)))

  items_long : length (item_rows wants p) ≡ item_width * want_count wants
  items_long = flat_length 4 (want_count wants) _ (λ i h. item_wide (p.cell i) (want_present wants i) (want_first wants i) (want_ranges wants i))

  pub listed : {cells' items' : List ℕ} {offsets' : List ℤ} {d : ℕ} → Fine ≡ layout_verdict (rooms_at w (cell_table (tables_at (range_count areas) (want_count wants))) f.cells)
      → cells' ≡ cell_rows_in w (cell_table (tables_at (range_count areas) (want_count wants))) f.cells ++ drop (cell_width * f.cells) cells
      → items' ≡ item_rows_in w wants (home_table (tables_at (range_count areas) (want_count wants))) (want_count wants) ++ drop (item_width * want_count wants) items
      → d ≡ depth_of (rooms_at w (cell_table (tables_at (range_count areas) (want_count wants))) f.cells)
      → offsets' ≡ offsets_of (rooms_at w (cell_table (tables_at (range_count areas) (want_count wants))) f.cells) ++ drop f.cells offsets
      → PlanListed wants (layout_verdict (rooms_in p)) p cells items offsets (Ok (record { cells = f.cells; probes = f.probes; depth = d })) cells' items' offsets'
  listed {cells'} {items'} {offsets'} {d} e C I D O =
      subst (λ (x : Verdict). PlanListed wants x p cells items offsets (Ok (record { cells = f.cells; probes = f.probes; depth = d })) cells' items' offsets') (sym (layout_told M e)) (record {
        answer = counts_told M D;
        in_cells = cells_told M cells C;
        in_items = I ∙ ap (λ (l : List ℕ). l ++ drop (item_width * want_count wants) items) items_are ∙ ap (λ (k : ℕ). item_rows wants p ++ drop k items) (sym items_long);
        in_offsets = offsets_told M offsets O;
      })
