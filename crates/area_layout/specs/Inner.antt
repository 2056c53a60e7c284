-- What the functions here promise each other. No public promise names these.
use Rattle.std.specs.Prelude.{ℕ, ◌+◌, ◌*◌, ◌/◌, ◌^◌, ◌≤◌, ◌<◌, ◌≡◌}
use Rattle.area_flow.specs.declared.Grid.{Grid}
use Rattle.local_spots.specs.declared.Places.{Places}
use Rattle.area_layout.specs.declared.Sizes.{Sizes}
use Rattle.words.specs.Regions.{row_words}

-- each number fits 32 bits: W of any such numbers is computed
pub record Numbers (z : Sizes) : Type 0 where
  pub blocks : z.blocks < 2 ^ 32
  pub edges : z.edges < 2 ^ 32
  pub locals : z.locals < 2 ^ 32
  pub touches : z.touches < 2 ^ 32
  pub ends : z.ends < 2 ^ 32
  pub ranges : z.room < 2 ^ 32

-- within the limits
pub record Small (z : Sizes) : Type 0 where
  pub some_block : 0 < z.blocks
  pub few_blocks : z.blocks ≤ 4096
  pub few_edges : z.edges ≤ 16384
  pub few_locals : z.locals ≤ 2048
  pub few_touches : z.touches ≤ 65536
  pub few_ends : z.ends ≤ 65536
  pub few_ranges : z.room ≤ 65536

-- the areas from 0 on and the items behind them, then the locals' chains, and the touches and ends of one local
pub record Placed (z : Sizes) (p : Places) : Type 0 where
  pub locals_are : p.locals ≡ z.locals
  pub heads_at : p.heads ≡ z.room + z.locals
  pub nexts_at : p.nexts ≡ p.heads + z.locals + z.locals
  pub touches_at : p.at ≡ p.nexts + z.touches + z.ends
  pub ends_at : p.ends ≡ p.at + z.touches

-- the rows, each of them behind the one before
pub record Gridded (z : Sizes) (base : ℕ) (g : Grid) : Type 0 where
  pub words_are : g.words ≡ row_words z.locals
  pub locals_are : g.locals ≡ z.locals
  pub width_is : g.width ≡ row_words z.blocks
  pub base_is : g.base ≡ base
  pub tarjan_at : g.tarjan ≡ base + z.edges + z.edges + (z.blocks + 1 + z.edges)
  pub touched_at : g.touched ≡ g.tarjan + 6 * z.blocks
  pub leaves_at : g.leaves ≡ g.touched + z.blocks * g.words
  pub passes_at : g.passes ≡ g.leaves + z.blocks * g.words
  pub written_at : g.written ≡ g.passes + z.blocks * g.words
  pub read_at : g.read ≡ g.written + z.blocks * g.words
  pub wait_at : g.wait ≡ g.read + z.blocks * g.words
  pub to_at : g.to ≡ g.wait + (z.blocks / 64 + 1) + z.blocks * g.words

-- where the marks and the words that an area is made in begin
abbrev pub mark_of : Grid → ℕ
mark_of g = g.to + g.locals * g.width
