-- A part of the area list, by the numbers that are lent.
use Prim.Native.Nat.{ℕ, ◌+◌, ◌*◌, ◌≤◌, ◌<◌}
use native.Mathlib.Omega.{arith}
use native.Mathlib.Nat.{add-zero}
use mathlib.Core.Path.{◌≡◌, ap, ◌∙◌}
use mathlib.Core.Bool.{false}
use mathlib.Core.List.{List}
use lib.ListN.{length, get_or, take, drop, length-drop}
use lib.Seq.{get_or-take, get_or-drop, length-take-le}
use lib.Dec.{ltb}
use borrow.Author.Tests.{ltb-false, ne_eqb}
use Rattle.words.specs.Widths.{range_width, range_count, range_end}
use Rattle.words.proofs.RowLaws.{length_records, get_d_records}
use Rattle.words.proofs.Bools.{or_neither}
use Rattle.ranges.specs.declared.Range.{Range}
use Rattle.ranges.specs.Points.{range, range_at, Apart}
use Rattle.ranges.specs.Lent.{faulty}
use Rattle.ranges.specs.Forms.{areas_of}
use Rattle.ranges.proofs.LentLaws.{faulty_apart}
use Rattle.range_walk.specs.Walk.{bad_part}

pub areas_length : (s : List ℕ) → length (areas_of s) ≡ range_count s
areas_length s = length_records range_width (λ f. range (f 0) (f 1)) s

-- range i from `first` on
pub from_at : (s : List ℕ) (first i : ℕ) → first + i < range_count s → range_at (drop first (areas_of s)) i ≡ range (get_or s (range_width * (first + i)) 0) (range_end s (first + i))
from_at s first i h =
    get_or-drop first (areas_of s) i (range 0 0) ∙ get_d_records range_width (λ f. range (f 0) (f 1)) s (first + i) (range 0 0) h
    ∙ ap (λ (k : ℕ). range (get_or s k 0) (range_end s (first + i))) (add-zero (range_width * (first + i)))

module _ (s : List ℕ) (first count : ℕ) (room : first + count ≤ range_count s) where
  pub part_length : length (take count (drop first (areas_of s))) ≡ count
  part_length = length-take-le count (drop first (areas_of s)) (rw (length-drop first (areas_of s), areas_length s) (omega arith))

  pub part_at : (i : ℕ) → i < count → range_at (take count (drop first (areas_of s))) i ≡ range (get_or s (range_width * (first + i)) 0) (range_end s (first + i))
  part_at i h = get_or-take count (drop first (areas_of s)) i (range 0 0) h ∙ from_at s first i (omega arith)

-- a present part that is not bad is inside the list, in order and apart
pub part_fine : (areas : List Range) (present first count : ℕ) → bad_part areas present first count ≡ false → (present ≡ 0 → ⊥)
    → (first + count ≤ length areas) × Apart (take count (drop first areas))
part_fine areas present first count e d =
    let (a, b) = or_neither (ltb (length areas) (first + count)) (faulty (take count (drop first areas))) (rw (ne_eqb present 0 d) at e) in
    (ltb-false _ _ a, faulty_apart (take count (drop first areas)) b)
