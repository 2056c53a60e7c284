-- Document 01: "a present flag and a part of the area list", read by points.
use Rattle.std.specs.Prelude.{ℕ, ◌+◌, ◌*◌, ◌≤◌, ◌<◌, ◌≡◌, ◌↔◌, List, length, take, drop}
use Rattle.words.specs.Rows.{field}
use Rattle.words.specs.Widths.{range_width, range_start, range_end}
use Rattle.ranges.specs.declared.Range.{Range}
use Rattle.ranges.specs.Forms.{areas_of}
use Rattle.areas.specs.Job.{Job, item_count}
use Rattle.area_points.specs.Points.{ItemPoint, NoArea}

-- x is in the part of an area list that begins at range `first` and has `count` of them: some row of it, start and end, has x
pub record PartPoint (areas : List ℕ) (first count x : ℕ) : Type 0 where
  pub row : ℕ
  pub from : first ≤ row
  pub under : row < first + count
  pub begun : range_start areas row ≤ x
  pub lasting : x ≤ range_end areas row

-- the ranges of that part
abbrev pub part_ranges : List ℕ → ℕ → ℕ → List Range
part_ranges areas first count = take count (drop first (areas_of areas))

-- what the numbers of an item's row tell: its area's points, that the point after a range is none of them, and whether it has no area
pub record Tells (J : Job) (i : ℕ) (areas : List ℕ) (present first count : ℕ) : Type 0 where
  pub points : (x : ℕ) → PartPoint areas first count x ↔ ItemPoint J i x
  pub gaps : (row : ℕ) → first ≤ row → row < first + count → ItemPoint J i (range_end areas row + 1) → ⊥
  pub absent : (present ≡ 0) ↔ NoArea J i
  pub inside : range_width * (first + count) ≤ length areas

-- the rows of all items, of `wide` numbers each, tell it of every item: present, first and count stand from number `at` of a row on
pub record AreasTold (J : Job) (wide at : ℕ) (items areas : List ℕ) : Type 0 where
  pub item : (i : ℕ) → i < item_count J → Tells J i areas (field wide items i at) (field wide items i (at + 1)) (field wide items i (at + 2))
  -- document 02, (b): two items that have areas have the same list exactly when the same points are in their areas
  pub same : (i j : ℕ) → i < item_count J → j < item_count J → (field wide items i at ≡ 0 → ⊥) → (field wide items j at ≡ 0 → ⊥)
      → (part_ranges areas (field wide items i (at + 1)) (field wide items i (at + 2)) ≡ part_ranges areas (field wide items j (at + 1)) (field wide items j (at + 2)))
      ↔ ((x : ℕ) → ItemPoint J i x ↔ ItemPoint J j x)
