-- What the functions here promise each other. No public promise names these.
use Rattle.std.specs.Prelude.{ℕ, ◌+◌, ◌*◌, ◌≤◌, ◌<◌, ◌≡◌, ◌⊎◌, Bool, false, ◌&&◌, ◌||◌, List, length}
use Rattle.bits.specs.Bits.{bit}
use Rattle.graph.specs.Inner.Work.{Within}
use Rattle.area_rows.specs.declared.Column.{Column}
use Rattle.row_turns.specs.declared.Turn.{Turn}

-- Rows of locals, a row a place, and rows of places, a row a local.

-- both rows of place k have the local's bit
abbrev pub both : Turn → List ℕ → ℕ → ℕ → Bool
both t w k l = bit w (t.one + k * t.words) l && bit w (t.two + k * t.words) l

-- bit k of the locals' rows
abbrev pub column_of : Turn → ℕ → Column
column_of t k = record { n = t.locals; base = t.to; words = t.width; bit = k }

-- the rows have room, the locals' rows apart from the others and with a bit for each place; no bit past the locals is in both rows of a place
pub record Turnable (t : Turn) (w : List ℕ) : Type 0 where
  pub one_in : t.one + t.n * t.words ≤ length w
  pub two_in : t.two + t.n * t.words ≤ length w
  pub to_in : t.to + t.locals * t.width ≤ length w
  pub one_apart : (t.one + t.n * t.words ≤ t.to) ⊎ (t.to + t.locals * t.width ≤ t.one)
  pub two_apart : (t.two + t.n * t.words ≤ t.to) ⊎ (t.to + t.locals * t.width ≤ t.two)
  pub wide : t.n ≤ t.width * 64
  pub long : t.locals ≤ t.words * 64
  pub none : (k l : ℕ) → k < t.n → t.locals ≤ l → l < t.words * 64 → both t w k l ≡ false

-- bit k of a local's row is set if it was, or if both rows of place k have the local; nothing else has changed
pub record Turned (t : Turn) (w₀ w : List ℕ) : Type 0 where
  pub kept : Within t.to (t.to + t.locals * t.width) w₀ w
  pub bits : (l k : ℕ) → l < t.locals → k < t.n → bit w (t.to + l * t.width) k ≡ (both t w₀ k l || bit w₀ (t.to + l * t.width) k)
  pub rest : (l b : ℕ) → l < t.locals → t.n ≤ b → b < t.width * 64 → bit w (t.to + l * t.width) b ≡ bit w₀ (t.to + l * t.width) b
