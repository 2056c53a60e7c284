-- What the functions here promise each other. No public promise names these.
use Rattle.std.specs.Prelude.{ℕ, ◌+◌, ◌*◌, ◌≤◌, ◌<◌, ◌≡◌, ◌≢◌, ◌⊎◌, ◌↔◌, Bool, true, List, length, get_or}
use Rattle.bits.specs.Bits.{bit}
use Rattle.graph.specs.Paths.{Edge, Between}
use Rattle.graph.specs.Flow.{Reaching}
use Rattle.graph.specs.Inner.Work.{Within, EdgeRows}
use Rattle.tarjan.specs.Components.{Components}
use Rattle.flow_rows.specs.declared.Flow.{Flow}

-- Document 01, "Blocks and edges", `flowed`: the rows in the work space, and what each of its steps leaves of them.

-- ---- what stands in the work space

abbrev pub which : Flow → List ℕ → ℕ → ℕ
which f w v = get_or w (f.base + v) 0

abbrev pub order_from : Flow → ℕ
order_from f = f.base + f.n + f.n + f.n + f.n + f.n

abbrev pub order : Flow → List ℕ → ℕ → ℕ
order f w i = get_or w (order_from f + i) 0

abbrev pub begins : Flow → List ℕ → ℕ → ℕ
begins f w u = get_or w (f.at + u) 0

abbrev pub ends : Flow → List ℕ → ℕ → ℕ
ends f w u = get_or w (f.at + u + 1) 0

abbrev pub target : Flow → List ℕ → ℕ → ℕ
target f w k = get_or w (f.at + f.n + 1 + k) 0

-- bit b of the touched row of place v, and of its row in the answer
abbrev pub touched_bit : Flow → List ℕ → ℕ → ℕ → Bool
touched_bit f w v b = bit w (f.touched + v * f.words) b

abbrev pub out_bit : Flow → List ℕ → ℕ → ℕ → Bool
out_bit f w v b = bit w (f.out + v * f.words) b

-- the rows stand where they have room, and the answer's rows apart from what is read
pub record Laid (f : Flow) (w : List ℕ) : Type 0 where
  pub rising : (u : ℕ) → u < f.n → begins f w u ≤ ends f w u
  pub rows_fit : (u : ℕ) → u < f.n → f.at + f.n + 1 + ends f w u ≤ f.base
  pub below : f.at + f.n + 1 ≤ f.base
  pub nodes : (u k : ℕ) → u < f.n → begins f w u ≤ k → k < ends f w u → target f w k < f.n
  pub listed : (i : ℕ) → i < f.n → order f w i < f.n
  pub base_fits : f.base + f.n + f.n + f.n + f.n + f.n + f.n ≤ f.out
  pub out_fits : f.out + f.n * f.words ≤ length w
  pub touched_fits : f.touched + f.n * f.words ≤ length w
  pub apart : (f.touched + f.n * f.words ≤ f.out) ⊎ (f.out + f.n * f.words ≤ f.touched)

-- ---- where a bit comes from

-- over an edge from u that leaves component c
abbrev pub Across : Flow → List ℕ → ℕ → ℕ → ℕ → Type 0
Across f w u c b = (k : ℕ) × (begins f w u ≤ k) × (k < ends f w u) × (which f w (target f w k) ≢ c)
    × ((out_bit f w (target f w k) b ≡ true) ⊎ (touched_bit f w (target f w k) b ≡ true))

-- an edge from u stays in component c
abbrev pub Stays : Flow → List ℕ → ℕ → ℕ → Type 0
Stays f w u c = (k : ℕ) × (begins f w u ≤ k) × (k < ends f w u) × (which f w (target f w k) ≡ c)

-- for some place that stands in the order from i up to j
abbrev pub Member : Flow → List ℕ → ℕ → ℕ → (ℕ → Type 0) → Type 0
Member f w i j P = (p : ℕ) × (i ≤ p) × (p < j) × P (order f w p)

-- ---- what the steps do

-- the row of x has more bits, those of S, and nothing else has changed
pub record Joins (f : Flow) (x : ℕ) (S : ℕ → Type 0) (w₀ w : List ℕ) : Type 0 where
  pub kept : Within (f.out + x * f.words) (f.out + x * f.words + f.words) w₀ w
  pub old : (b : ℕ) → b < f.words * 64 → out_bit f w₀ x b ≡ true → out_bit f w x b ≡ true
  pub new : (b : ℕ) → b < f.words * 64 → S b → out_bit f w x b ≡ true
  pub only : (b : ℕ) → b < f.words * 64 → out_bit f w x b ≡ true → (out_bit f w₀ x b ≡ true) ⊎ S b

-- r is true exactly when A holds
pub record Tells (A : Type 0) (r : Bool) : Type 0 where
  pub yes_so : r ≡ true → A
  pub so_yes : A → r ≡ true

-- the places from i up to j of the order are component c's
pub record Run (f : Flow) (w : List ℕ) (i j c : ℕ) : Type 0 where
  pub first : i < j
  pub last : j ≤ f.n
  pub inside : (p : ℕ) → i ≤ p → p < j → which f w (order f w p) ≡ c
  pub next : j < f.n → which f w (order f w j) ≢ c

-- each place from i up to j of the order has the row of x
pub record Shared (f : Flow) (x i j c : ℕ) (w₀ w : List ℕ) : Type 0 where
  pub kept : Within f.out (f.out + f.n * f.words) w₀ w
  pub shared : (p b : ℕ) → i ≤ p → p < j → b < f.words * 64 → out_bit f w (order f w₀ p) b ≡ out_bit f w₀ x b
  pub others : (v b : ℕ) → v < f.n → which f w₀ v ≢ c → b < f.words * 64 → out_bit f w v b ≡ out_bit f w₀ v b

-- what the row of component c comes from
abbrev pub Source : Flow → List ℕ → ℕ → ℕ → ℕ → ℕ → Type 0
Source f w i j c b =
    Member f w i j (λ u. Across f w u c b)
    ⊎ (Member f w i j (λ u. Stays f w u c) × Member f w i j (λ u. touched_bit f w u b ≡ true))

-- one component was visited, which stands in the order from i up to j
pub record Visited (f : Flow) (i j c : ℕ) (w₀ w : List ℕ) : Type 0 where
  pub run : Run f w₀ i j c
  pub kept : Within f.out (f.out + f.n * f.words) w₀ w
  pub has : (p b : ℕ) → i ≤ p → p < j → b < f.words * 64 → Source f w₀ i j c b → out_bit f w (order f w₀ p) b ≡ true
  pub only : (p b : ℕ) → i ≤ p → p < j → b < f.words * 64 → out_bit f w (order f w₀ p) b ≡ true → Source f w₀ i j c b
  pub others : (v b : ℕ) → v < f.n → which f w₀ v ≢ c → b < f.words * 64 → out_bit f w v b ≡ out_bit f w₀ v b

-- `flowed`: "a bit is set exactly when a touched block is reached over one or more edges"
pub record Flowed (f : Flow) (w₀ w : List ℕ) : Type 0 where
  pub kept : Within f.out (f.out + f.n * f.words) w₀ w
  pub bits : (es : List Edge) (count : ℕ) → Between f.n es → EdgeRows es f.n f.at w₀ → Components es f.n (which f w₀) count
      → (v b : ℕ) → v < f.n → b < f.words * 64 → (out_bit f w v b ≡ true) ↔ Reaching es (λ k. touched_bit f w₀ k b) v
