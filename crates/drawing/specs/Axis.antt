-- The axis of a picture: its points, and where each is drawn. Coordinates are tenths of a pixel.
use Rattle.std.specs.Prelude.{ℕ, zero, suc, ◌+◌, ◌-◌, ◌*◌, ◌≤◌, ◌<◌, min, max, ◌≡◌, List}
use Rattle.words.specs.Rows.{field}
use Rattle.words.specs.Widths.{block_width, block_count, range_width, range_count}

-- the least of a number and of field f in the first n rows of width w; the greatest
unfoldable pub least_of : ℕ → List ℕ → ℕ → ℕ → ℕ → ℕ
least_of w l f a zero = a
least_of w l f a (suc n) = min (least_of w l f a n) (field w l n f)

unfoldable pub greatest_of : ℕ → List ℕ → ℕ → ℕ → ℕ → ℕ
greatest_of w l f a zero = a
greatest_of w l f a (suc n) = max (greatest_of w l f a n) (field w l n f)

-- the first and the last point of blocks (rows of number, start and end) and of areas (rows of start and end)
abbrev pub first_of : List ℕ → List ℕ → ℕ
first_of blocks areas = least_of range_width areas 0 (least_of block_width blocks 1 4294967295 (block_count blocks)) (range_count areas)

abbrev pub last_of : List ℕ → List ℕ → ℕ
last_of blocks areas = greatest_of range_width areas 1 (greatest_of block_width blocks 2 0 (block_count blocks)) (range_count areas)

-- where the axis begins, and its width
abbrev pub left : ℕ
left = 1700

abbrev pub axis_width : ℕ
axis_width = 8000

-- how many points come before p on an axis with a first point and some more
abbrev pub points_before : ℕ → ℕ → ℕ → ℕ
points_before first more p = min (more + 1) (p - first)

-- where a point begins: as the points before it are to all points, so is the way from the left to the width of the axis, rounded down
pub record Placed (first more p x : ℕ) : Type 0 where
  pub way : ℕ
  pub at : x ≡ left + way
  pub inside : way ≤ axis_width
  pub reached : way * (more + 1) ≤ axis_width * points_before first more p
  pub not_passed : axis_width * points_before first more p < suc way * (more + 1)

-- the bar of a range: both ends are included, so it goes to where the next point begins
pub record Barred (first more start end x width : ℕ) : Type 0 where
  pub begins : Placed first more start x
  pub ends : Placed first more (max start end + 1) (x + width)
