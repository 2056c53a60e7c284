-- What the functions here promise each other. No public promise names these.
use Rattle.std.specs.Prelude.{ℕ, suc, ◌+◌, ◌*◌, ◌^◌, ◌≤◌, ◌<◌, ◌≡◌, ◌⊎◌, Bool, not, ◌&&◌, List, length, get_or, eqb, ltb}
use Rattle.words.specs.Rows.{tabulate}
use Rattle.words.specs.Sort.{sort_of}
use Rattle.words.specs.Inner.{Splits, part, inst_placed}
use Rattle.words.specs.Widths.{mention_width, address_count, end_count}
use Rattle.graph.specs.Inner.Work.{Within}
use Rattle.carrying.specs.Lists.{any}
use Rattle.carrying.specs.Insts.{is_set}
use Rattle.reach.specs.declared.Lay.{Lay}
use Rattle.reach.specs.Inner.{latest, row_local}

-- What the later steps of the preparation promise: the edges in order, the first edge of each def, and the placed ends.

-- at each of m instructions with a def, how many of the n edges stand before those of its def
pub record Firsts (lay : Lay) (m n : ℕ) (w₀ w : List ℕ) : Type 0 where
  pub kept : Within lay.firsts (lay.firsts + m) w₀ w
  pub first : (i q : ℕ) → i < m → get_or w₀ (lay.defs + i) 0 ≡ suc q → Splits (λ k. ltb (get_or w (lay.edges + k) 0) (q * 2 ^ 32)) n (get_or w (lay.firsts + i) 0)

-- the edges are in order, and each def has its first
pub record Indexed (lay : Lay) (m n : ℕ) (w₀ w : List ℕ) : Type 0 where
  pub kept : Within lay.firsts (lay.edges + n) w₀ w
  pub edges : (k : ℕ) → k < n → get_or w (lay.edges + k) 0 ≡ get_or (sort_of (part lay.edges n w₀)) k 0
  pub first : (i q : ℕ) → i < m → get_or w₀ (lay.defs + i) 0 ≡ suc q → Splits (λ k. ltb (get_or w (lay.edges + k) 0) (q * 2 ^ 32)) n (get_or w (lay.firsts + i) 0)

-- row k is an end of local m that is placed
abbrev pub placed_end : List ℕ → List ℕ → ℕ → ℕ → Bool
placed_end insts s m k = eqb (row_local s k) m && is_set (inst_placed insts (get_or s (mention_width * k) 0))

pub record Ends (lay : Lay) (insts s : List ℕ) (l k : ℕ) (w₀ w : List ℕ) : Type 0 where
  pub kept : Within lay.ended (lay.ended + l) w₀ w
  pub ended : (m : ℕ) → m < l → eqb (get_or w (lay.ended + m) 0) 0 ≡ not (any (placed_end insts s m) (tabulate k (λ j. j)))

-- two rows of `words` words are zero
pub record Cleared (lay : Lay) (words : ℕ) (w₀ w : List ℕ) : Type 0 where
  pub kept : Within lay.escapes (lay.dead + words) w₀ w
  pub first : (k : ℕ) → k < words → get_or w (lay.escapes + k) 0 ≡ 0
  pub second : (k : ℕ) → k < words → get_or w (lay.dead + k) 0 ≡ 0

-- no register is seen, no local has an entry or an end
pub record Emptied (lay : Lay) (words l : ℕ) (w₀ w : List ℕ) : Type 0 where
  pub len : length w ≡ length w₀
  pub seen : (k : ℕ) → k < words → get_or w (lay.seen + k) 0 ≡ 0
  pub heads : (m : ℕ) → m < l → get_or w (lay.heads + m) 0 ≡ 0
  pub ended : (m : ℕ) → m < l → get_or w (lay.ended + m) 0 ≡ 0
  pub outside : (k : ℕ) → (k < lay.seen) ⊎ (lay.seen + words ≤ k) → (k < lay.heads) ⊎ (lay.ended + l ≤ k) → get_or w k 0 ≡ get_or w₀ k 0

-- what the walks read of the locals, by the rows lent
pub record ByLocal (lay : Lay) (words : ℕ) (insts addresses ends : List ℕ) (l : ℕ) (w₀ w : List ℕ) : Type 0 where
  pub len : length w ≡ length w₀
  pub outside : (k : ℕ) → (k < lay.seen) ⊎ (lay.seen + words ≤ k) → (k < lay.heads) ⊎ (lay.ended + l ≤ k) → get_or w k 0 ≡ get_or w₀ k 0
  pub seen : (k : ℕ) → k < words → get_or w (lay.seen + k) 0 ≡ 0
  pub head : (m : ℕ) → m < l → get_or w (lay.heads + m) 0 ≡ latest (row_local addresses) m (address_count addresses)
  pub next : (b : ℕ) → b < address_count addresses → row_local addresses b < l → get_or w (lay.nexts + b) 0 ≡ latest (row_local addresses) (row_local addresses b) b
  pub ended : (m : ℕ) → m < l → eqb (get_or w (lay.ended + m) 0) 0 ≡ not (any (placed_end insts ends m) (tabulate (end_count ends) (λ j. j)))
