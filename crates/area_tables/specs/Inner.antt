-- What the functions here promise each other. No public promise names these.
use Rattle.std.specs.Prelude.{ℕ}
use Rattle.area_measure.specs.declared.Listing.{Listing}

-- in the work space: the areas stand from 0 on, the items' words from `items` on
abbrev pub listing : ℕ → ℕ → Listing
listing room items = record { areas = 0; room = room; items = items }
