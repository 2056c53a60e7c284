-- What the functions here promise each other. No public promise names these.
use Rattle.std.specs.Prelude.{ℕ, ◌+◌, ◌*◌, ◌/◌, ◌^◌, ◌≤◌, ◌<◌, ◌≡◌, List, ◌∷◌, ◌++◌, length, get_or, drop}
use Rattle.words.specs.Rows.{tabulate, flat}
use Rattle.words.specs.Widths.{cell_width, item_width, range_width, range_count}
use Rattle.fit_tables.specs.Inner.{tables_at, cell_table, home_table, behind, cell_rows_in}
use Rattle.answer_rows.specs.Inner.{rows_in, row_of as part_of}

-- What stands in the answer lists, by the tables of the work space.

-- an item's row, by its cell and its word
abbrev pub row_of : ℕ → ℕ → List ℕ
row_of cell x = cell ∷ part_of x

abbrev pub rows_of : List ℕ → ℕ → ℕ → ℕ → List ℕ
rows_of w from cells n = flat (tabulate n (λ i. row_of (get_or w (cells + i) 0) (get_or w (from + i) 0)))

-- room in the answer lists, given by their lengths, for n items in `used` cells with `total` ranges
pub record Listable (cells items areas : ℕ) (w : List ℕ) (n used total : ℕ) : Type 0 where
  pub few : n ≤ 4096
  pub short : areas / range_width ≤ 65536
  pub in_cells : cell_width * used ≤ cells
  pub used_few : used ≤ n
  pub in_items : item_width * n ≤ items
  pub in_areas : total ≤ areas / range_width
  pub in_work : behind (tables_at (areas / range_width) n) ≤ length w
  pub small : (i : ℕ) → i < n → get_or w (home_table (tables_at (areas / range_width) n) + i) 0 < 2 ^ 32

pub record Written (cells items areas w : List ℕ) (n used total : ℕ) (cells' items' areas' : List ℕ) : Type 0 where
  pub in_cells : cells' ≡ cell_rows_in w (cell_table (tables_at (range_count areas) n)) used ++ drop (cell_width * used) cells
  pub in_items : items' ≡ rows_of w (range_count areas) (home_table (tables_at (range_count areas) n)) n ++ drop (item_width * n) items
  pub in_areas : areas' ≡ rows_in w 0 total 0 ++ drop (range_width * total) areas
