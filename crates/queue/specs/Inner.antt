-- What the functions here promise each other. No public promise names these.
use Rattle.std.specs.Prelude.{ℕ, suc, ◌+◌, ◌-◌, ◌/◌, ◌≤◌, ◌<◌, ◌≡◌, ◌≢◌, ◌⊎◌, true, List, length, get_or}
use Rattle.bits.specs.Bits.{bit}
use Rattle.reach.specs.declared.Lay.{Lay}
use Rattle.words.specs.Regions.{row_words}

-- A walk over registers in the work space: a queue of instructions, each with another def, and a bit for each def that it has.

-- the def of instruction i plus 1, or 0; the instruction that stands at k in the queue
abbrev pub def_at : Lay → List ℕ → ℕ → ℕ
def_at lay w i = get_or w (lay.defs + i) 0

abbrev pub queued : Lay → List ℕ → ℕ → ℕ
queued lay w k = get_or w (lay.queue + k) 0

-- of v registers and m instructions, n stand in the queue, and their defs are those seen
pub record Held (v m : ℕ) (lay : Lay) (w : List ℕ) (n : ℕ) : Type 0 where
  pub seen_fits : lay.seen + row_words v ≤ lay.defs
  pub defs_fits : lay.defs + m ≤ lay.queue
  pub queue_fits : lay.queue + m ≤ length w
  pub def_le : (i : ℕ) → i < m → def_at lay w i ≤ v
  pub n_le : n ≤ m
  pub low : (k : ℕ) → k < n → queued lay w k < m
  pub defined : (k : ℕ) → k < n → 0 < def_at lay w (queued lay w k)
  pub marked : (k : ℕ) → k < n → bit w lay.seen (def_at lay w (queued lay w k) - 1) ≡ true
  pub listed : (r : ℕ) → r < v → bit w lay.seen r ≡ true → (k : ℕ) × (k < n) × (def_at lay w (queued lay w k) ≡ suc r)
  pub differ : (j k : ℕ) → j < k → k < n → def_at lay w (queued lay w j) ≢ def_at lay w (queued lay w k)
  pub words : (x : ℕ) → x < row_words v → (get_or w (lay.seen + x) 0 ≡ 0) ⊎ ((k : ℕ) × (k < n) × ((def_at lay w (queued lay w k) - 1) / 64 ≡ x))

-- d is the def of one of the first n in the queue
pub record Listed (lay : Lay) (w : List ℕ) (n d : ℕ) : Type 0 where
  pub place : ℕ
  pub within : place < n
  pub is : def_at lay w (queued lay w place) ≡ d

-- the queue has grown from n₀ to n by instructions of which P holds; nothing else has changed but the seen registers
pub record Grew (v m : ℕ) (lay : Lay) (w₀ w : List ℕ) (n₀ n : ℕ) (P : ℕ → Type 0) : Type 0 where
  pub held : Held v m lay w n
  pub len : length w ≡ length w₀
  pub outside : (k : ℕ) → (k < lay.seen) ⊎ (lay.seen + row_words v ≤ k) → (k < lay.queue) ⊎ (lay.queue + m ≤ k) → get_or w k 0 ≡ get_or w₀ k 0
  pub more : n₀ ≤ n
  pub old : (k : ℕ) → k < n₀ → queued lay w k ≡ queued lay w₀ k
  pub new : (k : ℕ) → n₀ ≤ k → k < n → P (queued lay w k)

-- instruction i, which has a def, is in the queue, or another with its def
pub record Joined (v m : ℕ) (lay : Lay) (w₀ w : List ℕ) (i n₀ n : ℕ) : Type 0 where
  pub grew : Grew v m lay w₀ w n₀ n (λ j. j ≡ i)
  pub has : Listed lay w n (def_at lay w i)
