-- What the functions here promise each other. No public promise names these.
use Rattle.std.specs.Prelude.{ℕ, ◌/◌, ◌+◌, ◌*◌, ◌≤◌, ◌≡◌, List, length}
use Rattle.areas.specs.Blocks.{AllInLine}
use Rattle.spots.specs.Spots.{line_of}
use Rattle.local_marks.specs.Inner.{Marks}
use Rattle.area_measure.specs.Locals.{area_for}
use Rattle.area_measure.specs.Inner.Locals.{word_of, ListedBy}
use Rattle.area_layout.specs.Layout.{space_for}
use Rattle.area_checks.specs.Checks.{sizes_of}
use Rattle.words.specs.Inner.{Region, touch_count, stop_count}
use Rattle.words.specs.Widths.{block_count, range_width}
use Rattle.graph.specs.Paths.{Edge}
use Rattle.graph.specs.Line.{blocks_of, Sound}
use Rattle.graph.specs.Inner.Work.{Within}
use Rattle.area_flow.specs.declared.Grid.{Grid}
use Rattle.area_flow.specs.Inner.{AreaRows}
use Rattle.local_spots.specs.declared.Places.{Places}
use Rattle.local_spots.specs.Locals.{kind_for, touches_for, ends_for}
use Rattle.local_spots.specs.Inner.{Laid, Chains}
use Rattle.area_measure.specs.declared.Listing.{Listing}
use Rattle.lent_areas.specs.Areas.{graph_for}

-- the areas stand from 0 on and the items behind their room
abbrev pub listing : ℕ → Listing
listing room = record { areas = 0; room = room; items = room }

-- touches in the line, and where the marks go
pub record Markable (p : Places) (g : Grid) (blocks kinds touches ends w : List ℕ) : Type 0 where
  pub line : Sound (blocks_of blocks)
  pub in_line : (l : ℕ) → AllInLine (blocks_of blocks) (touches_for touches l)
  pub laid : Laid p (touch_count touches) (stop_count ends) w
  pub counted : g.locals ≡ p.locals
  pub kinds_lent : p.locals ≤ length kinds
  pub long : g.locals ≤ g.words * 64
  pub apart : p.ends + stop_count ends ≤ g.touched
  pub touched_fits : g.touched + block_count blocks * g.words ≤ g.leaves
  pub leaves_fit : g.leaves + block_count blocks * g.words ≤ g.passes
  pub passes_fit : g.passes + block_count blocks * g.words ≤ length w

-- all locals are chained and marked
pub record Marking (p : Places) (g : Grid) (blocks kinds touches ends w₀ w : List ℕ) : Type 0 where
  pub kept : Within p.heads (g.passes + block_count blocks * g.words) w₀ w
  pub chains : Chains p touches ends w
  pub marks : (es : List Edge) → Marks (line_of blocks es) (kind_for kinds) (touches_for touches) (ends_for ends) g (block_count blocks) w

-- the rows stand, and behind them no block is marked
pub record Rowed (es : List Edge) (g : Grid) (n from : ℕ) (w₀ w : List ℕ) : Type 0 where
  pub mid : List ℕ
  pub area : AreaRows es g n w₀ mid
  pub zero : Region mid w from g.width (λ _. 0)

-- all of it: nothing past W has changed
pub record Solved (blocks edges kinds touches ends : List ℕ) (areas : ℕ) (w₀ w : List ℕ) (r : ℕ) : Type 0 where
  pub kept : Within 0 (space_for (sizes_of blocks edges (length kinds) (length touches) (length ends) areas)) w₀ w
  pub listed : ListedBy word_of (listing (areas / range_width)) (area_for (graph_for blocks edges) kinds touches ends) (length kinds) r w
