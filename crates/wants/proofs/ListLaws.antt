-- The lists and the counts of a plan, by the words that fitting leaves: fitting alone and the whole job write them so.
use Prim.Native.Nat.{ℕ, ◌+◌, ◌*◌, ◌<◌}
use mathlib.Core.Path.{◌≡◌, refl, sym, ap, ◌∙◌}
use mathlib.Core.Option.{none}
use mathlib.Core.List.{List, [], ◌∷◌, ◌++◌, map}
use lib.IntN.{ℤ}
use lib.ListN.{length, get_or, drop}
use Rattle.refusals.specs.Outcomes.{given}
use Rattle.words.specs.Rows.{tabulate, flat}
use Rattle.words.specs.Widths.{cell_width}
use Rattle.words.proofs.RowLaws.{length_tabulate, tabulate_get_d, map_tabulate, tabulate_eq}
use Rattle.words.proofs.FlatLaws.{flat_length}
use Rattle.fitting.specs.Plan.{Cell, cell_at, Plan}
use Rattle.fitting.specs.Queries.{Room, room_in}
use Rattle.fitting.specs.Layout.{rooms_in, depth_of, offsets_of, layout_verdict}
use Rattle.fit_tables.specs.Inner.{size_of, align_of, tables_at, cell_table, cell_rows_in, Made}
use Rattle.fit_tables.specs.declared.Counts.{Counts}
use Rattle.fit_layout.specs.Inner.{rooms_at}
use Rattle.wants.specs.Entry.{tallied, cell_rows, cell_offsets}
use Rattle.wants.specs.Inner.{cell_row}
use Rattle.refusals.specs.Verdicts.{Verdict}

abbrev no_cell : Cell
no_cell = record { size = 0; align = 0; area = none }

pub rows_cells : (cs : List Cell) → flat (map cell_row cs) ≡ flat (tabulate (length cs) (λ i. cell_row (cell_at cs i)))
rows_cells cs = ap flat (ap (map cell_row) (sym (tabulate_get_d cs no_cell)) ∙ map_tabulate cell_row (length cs) (λ i. get_or cs i no_cell))

pub rooms_cells : (cs : List Cell) → map room_in cs ≡ tabulate (length cs) (λ i. room_in (cell_at cs i))
rooms_cells cs = ap (map room_in) (sym (tabulate_get_d cs no_cell)) ∙ map_tabulate room_in (length cs) (λ i. get_or cs i no_cell)

pub rooms_count : (p : Plan) → length (rooms_in p) ≡ length p.cells
rooms_count p = ap length (rooms_cells p.cells) ∙ length_tabulate (length p.cells) (λ i. room_in (cell_at p.cells i))

pub cells_long : (p : Plan) → length (cell_rows p) ≡ cell_width * length p.cells
cells_long p = ap length (rows_cells p.cells) ∙ flat_length 2 (length p.cells) (λ i. cell_row (cell_at p.cells i)) (λ i h. refl)

pub offsets_long : (p : Plan) → length (cell_offsets p) ≡ length p.cells
offsets_long p = length_tabulate (length (rooms_in p)) _ ∙ rooms_count p

module _ {p : Plan} {n room : ℕ} {w : List ℕ} {f : Counts} (M : Made p n room w f) where
  -- the words are the plan's cells
  pub rooms_are : rooms_at w (cell_table (tables_at room n)) f.cells ≡ rooms_in p
  rooms_are =
      tabulate_eq f.cells _ (λ i. room_in (cell_at p.cells i)) one
      ∙ ap (λ (k : ℕ). tabulate k (λ i. room_in (cell_at p.cells i))) M.cells ∙ sym (rooms_cells p.cells)
    where
      one : (i : ℕ) → i < f.cells → record { size = size_of (get_or w (cell_table (tables_at room n) + i) 0); align = align_of (get_or w (cell_table (tables_at room n) + i) 0) } ≡ room_in (cell_at p.cells i)
      one i h =
          let a = M.shown.size i (rw M.cells at h) in
          let b = M.shown.align i (rw M.cells at h) in
          cc

  rows_are : cell_rows_in w (cell_table (tables_at room n)) f.cells ≡ cell_rows p
  rows_are =
      ap flat (tabulate_eq f.cells _ (λ i. cell_row (cell_at p.cells i)) row)
      ∙ ap (λ (k : ℕ). flat (tabulate k (λ i. cell_row (cell_at p.cells i)))) M.cells ∙ sym (rows_cells p.cells)
    where
      row : (i : ℕ) → i < f.cells → size_of (get_or w (cell_table (tables_at room n) + i) 0) ∷ align_of (get_or w (cell_table (tables_at room n) + i) 0) ∷ [] ≡ cell_row (cell_at p.cells i)
      row i h =
          let a = M.shown.size i (rw M.cells at h) in
          let b = M.shown.align i (rw M.cells at h) in
          cc

  pub cells_told : (cells : List ℕ) {cells' : List ℕ} → cells' ≡ cell_rows_in w (cell_table (tables_at room n)) f.cells ++ drop (cell_width * f.cells) cells
      → cells' ≡ cell_rows p ++ drop (length (cell_rows p)) cells
  cells_told cells e =
      e ∙ ap (λ (l : List ℕ). l ++ drop (cell_width * f.cells) cells) rows_are
      ∙ ap (λ (k : ℕ). cell_rows p ++ drop k cells) (sym (cells_long p ∙ ap (λ (k : ℕ). cell_width * k) (sym M.cells)))

  pub offsets_told : (offsets : List ℤ) {offsets' : List ℤ} → offsets' ≡ offsets_of (rooms_at w (cell_table (tables_at room n)) f.cells) ++ drop f.cells offsets
      → offsets' ≡ cell_offsets p ++ drop (length (cell_offsets p)) offsets
  offsets_told offsets e =
      e ∙ ap (λ (l : List Room). offsets_of l ++ drop f.cells offsets) rooms_are
      ∙ ap (λ (k : ℕ). cell_offsets p ++ drop k offsets) (sym (offsets_long p ∙ sym M.cells))

  pub counts_told : {d : ℕ} → d ≡ depth_of (rooms_at w (cell_table (tables_at room n)) f.cells) → given (record { cells = f.cells; probes = f.probes; depth = d }) ≡ given (tallied p)
  counts_told {d} e =
      let a = M.cells in
      let b = M.probes in
      let c : d ≡ depth_of (rooms_in p) = e ∙ ap depth_of rooms_are in
      cc

  -- the verdict on the words is that on the plan
  pub layout_told : {v : Verdict} → v ≡ layout_verdict (rooms_at w (cell_table (tables_at room n)) f.cells) → layout_verdict (rooms_in p) ≡ v
  layout_told e = sym (e ∙ ap layout_verdict rooms_are)
