-- The area list as rows, and where the areas stand in the work space.
use Rattle.std.specs.Prelude.{ℕ, List, [], ◌∷◌, map}
use Rattle.std.proofs.Math.Option.{Option}
use Rattle.words.specs.Rows.{tabulate, flat}
use Rattle.ranges.specs.declared.Range.{Range}
use Rattle.carrying.specs.Lists.{gather}
use Rattle.ranges.specs.Points.{listed}

-- the area list 2 numbers: start, end
abbrev pub area_rows : ℕ → (ℕ → Option (List Range)) → List ℕ
area_rows locals A = flat (map (λ (r : Range). r.start ∷ r.end ∷ []) (gather listed (tabulate locals A)))
