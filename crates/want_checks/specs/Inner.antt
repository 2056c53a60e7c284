-- What the functions here promise each other. No public promise names these.
use Rattle.std.specs.Prelude.{ℕ, ◌+◌, ◌*◌, ◌≤◌, ◌<◌, ◌≡◌, false, List}
use Rattle.words.specs.Widths.{cell_width, item_width, range_count, want_count}
use Rattle.ranges.specs.Forms.{areas_of}
use Rattle.want_checks.specs.Checks.{bad_want}

-- what holds where nothing is refused: the counts within their limits, room in the answer lists and the work space, each want's part proper
pub record Granted (wants areas : List ℕ) (cells items offsets work : ℕ) : Type 0 where
  pub few : want_count wants ≤ 4096
  pub short : range_count areas ≤ 65536
  pub space : 8 * (want_count wants + range_count areas) ≤ work
  pub in_cells : cell_width * want_count wants ≤ cells
  pub in_items : item_width * want_count wants ≤ items
  pub in_offsets : want_count wants ≤ offsets
  pub fine : (i : ℕ) → i < want_count wants → bad_want (areas_of areas) wants i ≡ false
