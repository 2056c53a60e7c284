-- What private functions promise each other. No public promise names these.
use Rattle.std.specs.Prelude.{ℕ, ◌+◌, ◌*◌, ◌≤◌, ◌<◌, ◌/◌, ◌≡◌, ◌↔◌, ◌⊎◌, true, false, ◌&&◌, ◌||◌, Bool, List, length, get_or}
use Rattle.graph.specs.Paths.{Edge, Between}
use Rattle.graph.specs.Flow.{Arrives}
use Rattle.graph.specs.Rounds.{reached_row, reaching_row, arriving_row}
use Rattle.graph.specs.Inner.Work.{Within, EdgeRows}
use Rattle.flow.specs.declared.Over.{Over}
use Rattle.flow.specs.Entry.{FlowsTo}
use Rattle.flow.specs.Inner.{way_of}
use Rattle.area_flow.specs.declared.Grid.{Grid}
use Rattle.bits.specs.Bits.{bit}

-- the rows of some e edges
pub record Linked (g : Grid) (n e : ℕ) (w : List ℕ) : Type 0 where
  pub edges : List Edge
  pub between : Between n edges
  pub count : length edges ≡ e
  pub rows : EdgeRows edges n (g.base + e + e) w

-- The rows of the areas in one work space, from the marks of the locals to the blocks of each local.

-- bit l of place k's row, in the rows from `from` on
abbrev pub row_bit : Grid → ℕ → List ℕ → ℕ → ℕ → Bool
row_bit g from w k l = bit w (from + k * g.words) l

-- where the rows of what arrives begin
abbrev pub arriving : Grid → ℕ → ℕ
arriving g n = g.wait + (n / 64 + 1)

-- the rows can be turned: no bit past the locals
pub record Still (g : Grid) (n : ℕ) (w : List ℕ) : Type 0 where
  pub written_fits : g.written + n * g.words ≤ g.read
  pub read_fits : g.read + n * g.words ≤ g.wait
  pub wait_fits : arriving g n + n * g.words ≤ g.to
  pub to_fits : g.to + g.locals * g.width ≤ length w
  pub wide : n ≤ g.width * 64
  pub long : g.locals ≤ g.words * 64
  pub flows : (k l : ℕ) → k < n → g.locals ≤ l → l < g.words * 64 → (row_bit g g.written w k l && row_bit g g.read w k l) ≡ false
  pub arrives : (k l : ℕ) → k < n → g.locals ≤ l → l < g.words * 64 → row_bit g (arriving g n) w k l ≡ false

-- bit k of local l's row
abbrev pub block_bit : Grid → List ℕ → ℕ → ℕ → Bool
block_bit g w l k = bit w (g.to + l * g.width) k

-- the blocks of each local
pub record Blocked (g : Grid) (n : ℕ) (w₀ w : List ℕ) : Type 0 where
  pub kept : Within g.to (g.to + g.locals * g.width) w₀ w
  pub blocks : (l k : ℕ) → l < g.locals → k < n → block_bit g w l k ≡ (row_bit g g.written w₀ k l && row_bit g g.read w₀ k l || row_bit g (arriving g n) w₀ k l)
  pub rest : (l b : ℕ) → l < g.locals → n ≤ b → b < g.width * 64 → block_bit g w l b ≡ false

-- of n places and e edges the parts stand one behind another, with a bit for each place and each local
pub record Laid (g : Grid) (n e : ℕ) (w : List ℕ) : Type 0 where
  pub few : n ≤ 4096
  pub edges_fit : g.base + e + e + (n + 1 + e) ≤ g.tarjan
  pub tarjan_fits : g.tarjan + n + n + n + n + n + n ≤ g.touched
  pub touched_fits : g.touched + n * g.words ≤ g.leaves
  pub leaves_fit : g.leaves + n * g.words ≤ g.passes
  pub passes_fit : g.passes + n * g.words ≤ g.written
  pub written_fits : g.written + n * g.words ≤ g.read
  pub read_fits : g.read + n * g.words ≤ g.wait
  pub wait_fits : g.wait + (n / 64 + 1) + n * g.words ≤ g.to
  pub to_fits : g.to + g.locals * g.width ≤ length w
  pub wide : n ≤ g.width * 64
  pub long : g.locals ≤ g.words * 64

-- no place is touched or left, each is passed
pub record Unmarked (g : Grid) (n : ℕ) (w₀ w : List ℕ) : Type 0 where
  pub kept : Within g.touched (g.passes + n * g.words) w₀ w
  pub touched : (k l : ℕ) → k < n → l < g.words * 64 → row_bit g g.touched w k l ≡ false
  pub leaves : (k l : ℕ) → k < n → l < g.words * 64 → row_bit g g.leaves w k l ≡ false
  pub passes : (k l : ℕ) → k < n → l < g.words * 64 → row_bit g g.passes w k l ≡ true

-- no place is touched or left by a bit that is no local's
pub record Quiet (g : Grid) (n : ℕ) (w : List ℕ) : Type 0 where
  pub touched : (k l : ℕ) → k < n → g.locals ≤ l → l < g.words * 64 → row_bit g g.touched w k l ≡ false
  pub leaves : (k l : ℕ) → k < n → g.locals ≤ l → l < g.words * 64 → row_bit g g.leaves w k l ≡ false

-- nothing has changed but numbers from lo up to hi and from lo' up to hi'
pub record Outside (lo hi lo' hi' : ℕ) (w₀ w : List ℕ) : Type 0 where
  pub len : length w ≡ length w₀
  pub same : (i : ℕ) → (i < lo) ⊎ (hi ≤ i) → (i < lo') ⊎ (hi' ≤ i) → get_or w i 0 ≡ get_or w₀ i 0

-- `flowed` one way, into the rows from `out` on
pub record FlowedOver (over : Over) (es : List Edge) (g : Grid) (n e out : ℕ) (w₀ w : List ℕ) : Type 0 where
  pub kept : Outside g.base (g.tarjan + n + n + n + n + n + n) out (out + n * g.words) w₀ w
  pub between : Between n (way_of over es)
  pub count : length (way_of over es) ≡ e
  pub rows : EdgeRows (way_of over es) n (g.base + e + e) w
  pub bits : (k l : ℕ) → k < n → l < g.words * 64 → (row_bit g out w k l ≡ true) ↔ FlowsTo over es (λ j. row_bit g g.touched w₀ j l) k

-- `spread`
pub record ArrivedAt (g : Grid) (n e : ℕ) (w₀ w : List ℕ) : Type 0 where
  pub kept : Outside g.tarjan (g.tarjan + n + n + n + n) g.wait (arriving g n + n * g.words) w₀ w
  pub bits : (es : List Edge) → Between n es → length es ≡ e → EdgeRows es n (g.base + e + e) w₀
      → (k l : ℕ) → k < n → l < g.words * 64 → (row_bit g (arriving g n) w k l ≡ true) ↔ Arrives es (λ j. row_bit g g.leaves w₀ j l) (λ j. row_bit g g.passes w₀ j l) k

-- the three rows of each place
pub record Flowing (es : List Edge) (g : Grid) (n : ℕ) (w₀ w : List ℕ) : Type 0 where
  pub kept : Outside g.base (g.tarjan + n + n + n + n + n + n) g.written (arriving g n + n * g.words) w₀ w
  pub between : Between n es
  pub written : (k l : ℕ) → k < n → l < g.words * 64 → row_bit g g.written w k l ≡ reached_row n es (λ j. row_bit g g.touched w₀ j l) k
  pub read : (k l : ℕ) → k < n → l < g.words * 64 → row_bit g g.read w k l ≡ reaching_row n es (λ j. row_bit g g.touched w₀ j l) k
  pub arrives : (k l : ℕ) → k < n → l < g.words * 64 → row_bit g (arriving g n) w k l ≡ arriving_row n es (λ j. row_bit g g.leaves w₀ j l) (λ j. row_bit g g.passes w₀ j l) k

-- ---- the promise

-- with the bits of one local as functions of the place: what is written above a place and read below it, what arrives there, and which blocks the local has
pub record AreaRows (es : List Edge) (g : Grid) (n : ℕ) (w₀ w : List ℕ) : Type 0 where
  pub kept : Outside g.base (g.tarjan + n + n + n + n + n + n) g.written (g.to + g.locals * g.width) w₀ w
  pub between : Between n es
  pub written : (k l : ℕ) → k < n → l < g.words * 64 → row_bit g g.written w k l ≡ reached_row n es (λ j. row_bit g g.touched w₀ j l) k
  pub read : (k l : ℕ) → k < n → l < g.words * 64 → row_bit g g.read w k l ≡ reaching_row n es (λ j. row_bit g g.touched w₀ j l) k
  pub blocks : (l k : ℕ) → l < g.locals → k < n → block_bit g w l k
      ≡ (reached_row n es (λ j. row_bit g g.touched w₀ j l) k && reaching_row n es (λ j. row_bit g g.touched w₀ j l) k
      || arriving_row n es (λ j. row_bit g g.leaves w₀ j l) (λ j. row_bit g g.passes w₀ j l) k)
  pub rest : (l b : ℕ) → l < g.locals → n ≤ b → b < g.width * 64 → block_bit g w l b ≡ false
