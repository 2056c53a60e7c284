-- What the entry's functions promise each other. No public promise names these.
use Rattle.std.specs.Prelude.{ℕ, List}
use Rattle.std.proofs.Math.Option.{Option}
use Rattle.ranges.specs.declared.Range.{Range}
use Rattle.area_measure.specs.Inner.Locals.{word_of, ListedBy}
use Rattle.area_tables.specs.Inner.{listing}

-- the areas of some items
pub record Held (n room total : ℕ) (w : List ℕ) : Type 0 where
  pub area : ℕ → Option (List Range)
  pub found : ListedBy word_of (listing room room) area n total w
