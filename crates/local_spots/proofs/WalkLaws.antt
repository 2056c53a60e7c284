-- Laws of a row as one word.
use Prim.Native.Nat.{ℕ, ◌+◌, ◌*◌, ◌<◌}
use native.Mathlib.Omega.{arith}
use mathlib.Core.Path.{◌≡◌, refl, subst}
use mathlib.Core.Logic.{◌≢◌, ◌⊎◌, inl, inr}
use mathlib.Core.List.{List}
use lib.ListN.{length}
use Rattle.words.specs.Rows.{row_count, field}
use Rattle.words.specs.Widths.{touch_width, stop_width}
use Rattle.words.specs.Inner.{touch_count, touch_start, touch_end, stop_count, stop_point}
use Rattle.ranges.specs.Points.{range}
use Rattle.ranges.specs.Inner.{pack}
use Rattle.local_spots.specs.Inner.{word_of}

-- a row as one word
pub row_whole : {width : ℕ} (rows : List ℕ) (i : ℕ) → (width ≡ 2) ⊎ (width ≡ 3) → i < row_count width rows → (width ≡ 3 → touch_width * i + 2 < length rows) × (width ≢ 3 → (width ≡ 2) × (stop_width * i + 1 < length rows))
row_whole rows i (inl e) h =
    let z : i < stop_count rows = subst (λ (k : ℕ). i < row_count k rows) e h in
    ((λ f. absurd (omega arith)), (λ f. (e, omega arith)))
row_whole rows i (inr e) h =
    let z : i < touch_count rows = subst (λ (k : ℕ). i < row_count k rows) e h in
    ((λ f. omega arith), (λ f. absurd (f e)))

pub word_touch : (width i : ℕ) (rows : List ℕ) → width ≡ 3 → pack (range (touch_start rows i) (touch_end rows i)) ≡ word_of width (field width rows i)
word_touch width i rows e = rw e refl

pub word_point : (width i : ℕ) (rows : List ℕ) → width ≡ 2 → stop_point rows i ≡ word_of width (field width rows i)
word_point width i rows e = rw e refl
