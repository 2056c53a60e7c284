-- What the entry's functions promise each other.
use Rattle.std.specs.Prelude.{ℕ, ◌+◌, ◌*◌, ◌^◌, ◌≤◌, ◌<◌, List, [], ◌∷◌, length, get_or}
use Rattle.fitting.specs.Plan.{Cell}
use Rattle.words.specs.Widths.{cell_width, item_width, range_count, want_count}
use Rattle.fit_tables.specs.declared.Counts.{Counts}
use Rattle.fit_tables.specs.declared.Tables.{Tables}
use Rattle.fit_tables.specs.Inner.{home_table}

-- where the tables stand: the areas from 0 on, the tables behind them, and all of W is theirs
abbrev pub tables_for : List ℕ → List ℕ → Tables
tables_for wants areas = record { at = 0; items = range_count areas; n = want_count wants; end = 8 * (want_count wants + range_count areas) }

-- room for the answer lists of a plan that stands in the work space
pub record Listable (wants areas : List ℕ) (cells items offsets : ℕ) (w : List ℕ) (f : Counts) : Type 0 where
  pub few : want_count wants ≤ 4096
  pub short : range_count areas ≤ 65536
  pub space : 8 * (want_count wants + range_count areas) ≤ length w
  pub used_few : f.cells ≤ want_count wants
  pub in_cells : cell_width * want_count wants ≤ cells
  pub in_items : item_width * want_count wants ≤ items
  pub in_offsets : want_count wants ≤ offsets
  pub small : (i : ℕ) → i < want_count wants → get_or w (home_table (tables_for wants areas) + i) 0 < 2 ^ 32

-- the row of a cell
abbrev pub cell_row : Cell → List ℕ
cell_row c = c.size ∷ c.align ∷ []
