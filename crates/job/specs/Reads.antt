-- Document 01, demand 3, in the numbers that a call wrote: an item's cell and a cell's size as they stand in the answer lists.
use Rattle.std.specs.Prelude.{ℕ, ◌*◌, List, get_or}
use Rattle.words.specs.Widths.{cell_width, item_width}

-- items 4 numbers, the cell first; cells 2 numbers, the size first
abbrev pub cell_in : List ℕ → ℕ → ℕ
cell_in items i = get_or items (item_width * i) 0

abbrev pub size_in : List ℕ → ℕ → ℕ
size_in cells c = get_or cells (cell_width * c) 0
