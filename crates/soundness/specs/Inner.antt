-- What the functions here promise each other. No public promise names these.
use Rattle.std.specs.Prelude.{ℕ, ◌<◌, ◌≡◌, ◌≢◌, List}
use Rattle.std.proofs.Math.Option.{some}
use Rattle.ranges.specs.declared.Range.{Range}
use Rattle.ranges.specs.Points.{Point}
use Rattle.soundness.specs.Walks.{Frame}

-- all that is asked of the cells: two different items of one cell have areas, without a common point
pub record Disjoint (F : Frame) (i j : ℕ) : Type 0 where
  pub one : List Range
  pub two : List Range
  pub one_is : F.area i ≡ some one
  pub two_is : F.area j ≡ some two
  pub no_common : (x : ℕ) → Point one x → Point two x → ⊥

abbrev pub Separate : Frame → (ℕ → ℕ) → Type 0
Separate F cell = (i j : ℕ) → i < F.items → j < F.items → i ≢ j → cell i ≡ cell j → Disjoint F i j
