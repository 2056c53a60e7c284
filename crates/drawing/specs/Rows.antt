-- The rows of a picture, the size of a name in its bar, and the colours of items. Coordinates are tenths of a pixel.
use Rattle.std.specs.Prelude.{ℕ, ◌+◌, ◌*◌, ◌%◌}

-- where a cell's row begins, and its height
abbrev pub top_of : ℕ → ℕ
top_of cell = 900 + 400 * cell

abbrev pub row_height : ℕ
row_height = 340

-- the height of a picture with so many rows, and a line below them
abbrev pub height_of : ℕ → ℕ
height_of cells = top_of cells + 400

-- an item's hue in degrees: each next item is 137 degrees on
abbrev pub hue_of : ℕ → ℕ
hue_of item = (137 * item) % 360
