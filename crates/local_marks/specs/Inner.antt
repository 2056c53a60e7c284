-- What private functions promise each other. No public promise names these.
use Rattle.std.specs.Prelude.{ℕ, ◌+◌, ◌*◌, ◌≤◌, ◌<◌, ◌≡◌, Bool, false, not, ◌&&◌, ◌||◌, true, List, ◌≢◌, length}
use Rattle.kind_numbers.specs.Numbers.{kind_by}
use Rattle.areas.specs.Blocks.{Graph, touched, leaves, passes, AllInLine}
use Rattle.area_flow.specs.declared.Grid.{Grid}
use Rattle.local_spots.specs.Locals.{touches_for, ends_for, kind_for}
use Rattle.words.specs.Widths.{block_count}
use Rattle.graph.specs.Line.{blocks_of, Sound}
use Rattle.spots.specs.declared.Spots.{Spots}
use Rattle.spots.specs.Inner.{touches_at, Stand}
use Rattle.area_flow.specs.Inner.{row_bit, Quiet, block_bit}
use Rattle.words.specs.Inner.{touch_count, stop_count}
use Rattle.ranges.specs.declared.Range.{Range}
use Rattle.graph.specs.Inner.Work.{Within}
use Rattle.carrying.specs.declared.Kind.{Kind}
use Rattle.carrying.specs.declared.Kind.TheVariants.{Unfollowed, Plain, Ending}
use Rattle.local_spots.specs.declared.Places.{Places}
use Rattle.local_spots.specs.Inner.{Laid, Chains}
use Rattle.areas.specs.Pieces.{before_row, after_row, arrives_row}

-- The marks of one local whose touches and ends stand in the work space.

-- bit l of each place's row, in the rows from `from` on, is h's; the rows' other bits are as they were
pub record Bits (g : Grid) (from n l : ℕ) (h : ℕ → Bool) (w₀ w : List ℕ) : Type 0 where
  pub column : (k : ℕ) → k < n → row_bit g from w k l ≡ h k
  pub others : (k b : ℕ) → k < n → b < g.words * 64 → b ≢ l → row_bit g from w k b ≡ row_bit g from w₀ k b

-- a local's marks have been added: where it is touched, if it is plain, and where it leaves, if it is ending; those that an ending one does not pass have been taken away
pub record Marking (g : Grid) (n l : ℕ) (plain ending : Bool) (touched leaves passes : ℕ → Bool) (w₀ w : List ℕ) : Type 0 where
  pub touches_bits : Bits g g.touched n l (λ k. plain && touched k || row_bit g g.touched w₀ k l) w₀ w
  pub leaves_bits : Bits g g.leaves n l (λ k. ending && leaves k || row_bit g g.leaves w₀ k l) w₀ w
  pub passes_bits : Bits g g.passes n l (λ k. (not ending || passes k) && row_bit g g.passes w₀ k l) w₀ w

-- local l's touches, in the line, and its ends stand before the rows of the places
pub record Standing (blocks : List ℕ) (s : Spots) (g : Grid) (l : ℕ) (w : List ℕ) : Type 0 where
  pub line : Sound (blocks_of blocks)
  pub stand : Stand s w
  pub in_line : AllInLine (blocks_of blocks) (touches_at s w)
  pub bit_in : l < g.words * 64
  pub touches_apart : s.at + s.count ≤ g.touched
  pub ends_apart : s.ends + s.stops ≤ g.touched
  pub touched_fits : g.touched + block_count blocks * g.words ≤ g.leaves
  pub leaves_fit : g.leaves + block_count blocks * g.words ≤ g.passes
  pub passes_fit : g.passes + block_count blocks * g.words ≤ length w

-- tests of a kind
abbrev pub is_plain : Kind → Bool
is_plain Unfollowed = false
is_plain Plain = true
is_plain Ending = false

abbrev pub is_ending : Kind → Bool
is_ending Unfollowed = false
is_ending Plain = false
is_ending Ending = true

-- local l, of the kind with this number, is marked
abbrev pub MarkedOne : Graph → ℕ → List ℕ → List ℕ → Grid → ℕ → ℕ → List ℕ → List ℕ → Type 0
MarkedOne G kind touches ends g n l w₀ w =
    Marking g n l (is_plain (kind_by kind)) (is_ending (kind_by kind)) (touched G (touches_for touches l)) (leaves G (touches_for touches l) (ends_for ends l)) (passes G (ends_for ends l)) w₀ w

-- touches in the line, the regions of the locals' rows, and behind them the rows of the places
pub record Ready (p : Places) (g : Grid) (blocks touches ends w : List ℕ) : Type 0 where
  pub line : Sound (blocks_of blocks)
  pub in_line : (l : ℕ) → AllInLine (blocks_of blocks) (touches_for touches l)
  pub laid : Laid p (touch_count touches) (stop_count ends) w
  pub chains : Chains p touches ends w
  pub counted : g.locals ≡ p.locals
  pub long : g.locals ≤ g.words * 64
  pub apart : p.ends + stop_count ends ≤ g.touched
  pub touched_fits : g.touched + block_count blocks * g.words ≤ g.leaves
  pub leaves_fit : g.leaves + block_count blocks * g.words ≤ g.passes
  pub passes_fit : g.passes + block_count blocks * g.words ≤ length w

-- of a plain local the touched places are marked; of an ending one those that it leaves, and those that it passes; every other passes each place
pub record Marks (G : Graph) (K : ℕ → Kind) (T : ℕ → List Range) (E : ℕ → List ℕ) (g : Grid) (n : ℕ) (w : List ℕ) : Type 0 where
  pub touched : (l k : ℕ) → l < g.locals → k < n → row_bit g g.touched w k l ≡ (is_plain (K l) && touched G (T l) k)
  pub leaves : (l k : ℕ) → l < g.locals → k < n → row_bit g g.leaves w k l ≡ (is_ending (K l) && leaves G (T l) (E l) k)
  pub passes : (l k : ℕ) → l < g.locals → k < n → row_bit g g.passes w k l ≡ (not (is_ending (K l)) || passes G (E l) k)
  pub quiet : Quiet g n w

-- all locals are marked; nothing has changed but the regions of one local, what follows them, and the rows
pub record MarkedAll (G : Graph) (kinds touches ends : List ℕ) (p : Places) (g : Grid) (n : ℕ) (w₀ w : List ℕ) : Type 0 where
  pub kept : Within p.at (g.passes + n * g.words) w₀ w
  pub marks : Marks G (kind_for kinds) (touches_for touches) (ends_for ends) g n w

-- A local's rows, made from its marks.

-- local l's rows over n blocks are those of its kind, its touches and its ends
pub record RowsBy (G : Graph) (kind : Kind) (ts : List Range) (es : List ℕ) (g : Grid) (n l : ℕ) (w : List ℕ) : Type 0 where
  pub written : kind ≡ Plain → (k : ℕ) → k < length G.blocks → row_bit g g.written w k l ≡ before_row G ts k
  pub read : kind ≡ Plain → (k : ℕ) → k < length G.blocks → row_bit g g.read w k l ≡ after_row G ts k
  pub both : kind ≡ Plain → (k : ℕ) → k < n → block_bit g w l k ≡ (row_bit g g.written w k l && row_bit g g.read w k l)
  pub arrives : kind ≡ Ending → (k : ℕ) → k < length G.blocks → block_bit g w l k ≡ arrives_row G ts es k
  pub rest : (b : ℕ) → n ≤ b → b < g.width * 64 → block_bit g w l b ≡ false
