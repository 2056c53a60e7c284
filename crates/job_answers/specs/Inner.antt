-- What the entry's functions promise each other. No public promise names these.
use Rattle.std.specs.Prelude.{ℕ, ◌+◌, ◌*◌, ◌^◌, ◌≤◌, ◌<◌, ◌≡◌, List, length}
use Rattle.std.proofs.Math.Option.{Option, some}
use Rattle.ranges.specs.declared.Range.{Range}
use Rattle.ranges.specs.Points.{Apart}
use Rattle.area_measure.specs.Inner.Locals.{word_of, ListedBy}
use Rattle.area_tables.specs.Inner.{listing}
use Rattle.words.specs.Widths.{cell_width, item_width}

-- the areas of some items, each in order and apart, and room for their plan
pub record Measured (n room total end cells items offsets : ℕ) (w : List ℕ) : Type 0 where
  pub area : ℕ → Option (List Range)
  pub listed : ListedBy word_of (listing room room) area n total w
  pub apart : (i : ℕ) (rs : List Range) → area i ≡ some rs → Apart rs
  pub few : n ≤ 4096
  pub short : room ≤ 65536
  pub in_cells : cell_width * n ≤ cells
  pub in_items : item_width * n ≤ items
  pub in_offsets : n ≤ offsets
  pub space : room + 8 * n ≤ end
  pub inside : end ≤ length w
  pub small : end < 2 ^ 32
