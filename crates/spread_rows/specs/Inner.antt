-- What the functions here promise each other. No public promise names these.
use Rattle.std.specs.Prelude.{ℕ, ◌+◌, ◌*◌, ◌/◌, ◌≤◌, ◌<◌, ◌≡◌, ◌⊎◌, ◌↔◌, Bool, true, false, not, List, length, get_or}
use Rattle.bits.specs.Bits.{bit}
use Rattle.graph.specs.Paths.{Edge, Between}
use Rattle.graph.specs.Flow.{Arrives}
use Rattle.graph.specs.Inner.Work.{Within, EdgeRows, one}
use Rattle.graph.specs.Work.{sum_of}
use Rattle.spread_rows.specs.declared.Layout.{Layout}

-- Document 01, "Blocks and edges", `spread`: the rows in the work space, and what each of its steps leaves of them.

-- ---- what stands in the work space

abbrev pub begins : Layout → List ℕ → ℕ → ℕ
begins s w u = get_or w (s.at + u) 0

abbrev pub ends : Layout → List ℕ → ℕ → ℕ
ends s w u = get_or w (s.at + u + 1) 0

abbrev pub target : Layout → List ℕ → ℕ → ℕ
target s w k = get_or w (s.at + s.n + 1 + k) 0

abbrev pub order_at : Layout → List ℕ → ℕ → ℕ
order_at s w r = get_or w (s.order + r) 0

abbrev pub rank_of : Layout → List ℕ → ℕ → ℕ
rank_of s w v = get_or w (s.rank + v) 0

-- where the rows of what arrives begin
abbrev pub out_of : Layout → ℕ
out_of s = s.wait + (s.n / 64 + 1)

-- bit b of the rows of place v: what leaves it, what passes it, what arrives at it
abbrev pub leave_bit : Layout → List ℕ → ℕ → ℕ → Bool
leave_bit s w v b = bit w (s.leaves + v * s.words) b

abbrev pub pass_bit : Layout → List ℕ → ℕ → ℕ → Bool
pass_bit s w v b = bit w (s.passes + v * s.words) b

abbrev pub out_bit : Layout → List ℕ → ℕ → ℕ → Bool
out_bit s w v b = bit w (out_of s + v * s.words) b

-- rank r waits
abbrev pub waits : Layout → List ℕ → ℕ → Bool
waits s w r = bit w s.wait r

pub record Laid (s : Layout) (w : List ℕ) : Type 0 where
  pub few : s.n ≤ 4096
  pub rising : (u : ℕ) → u < s.n → begins s w u ≤ ends s w u
  pub rows_fit : (u : ℕ) → u < s.n → s.at + s.n + 1 + ends s w u ≤ s.wait
  pub below : s.at + s.n + 1 ≤ s.wait
  pub nodes : (u k : ℕ) → u < s.n → begins s w u ≤ k → k < ends s w u → target s w k < s.n
  pub order_fits : s.order + s.n ≤ s.wait
  pub rank_fits : s.rank + s.n ≤ s.wait
  pub leaves_fit : s.leaves + s.n * s.words ≤ s.wait
  pub passes_fit : s.passes + s.n * s.words ≤ s.wait
  pub out_fits : s.wait + (s.n / 64 + 1) + s.n * s.words ≤ length w
  pub placed : (r : ℕ) → r < s.n → order_at s w r < s.n
  pub ranked : (v : ℕ) → v < s.n → rank_of s w v < s.n
  pub rank_of_lem : (r : ℕ) → r < s.n → rank_of s w (order_at s w r) ≡ r
  pub order_of_lem : (v : ℕ) → v < s.n → order_at s w (rank_of s w v) ≡ v

-- ---- what the steps do

-- bit b goes on from u: it arrives there and passes, or it leaves
abbrev pub Sends : Layout → List ℕ → ℕ → ℕ → Type 0
Sends s w u b = ((out_bit s w u b ≡ true) × (pass_bit s w u b ≡ true)) ⊎ (leave_bit s w u b ≡ true)

-- what has arrived does arrive
abbrev pub Sound : List Edge → Layout → List ℕ → List ℕ → Type 0
Sound es s w₀ w = (v b : ℕ) → v < s.n → b < s.words * 64 → out_bit s w v b ≡ true → Arrives es (λ k. leave_bit s w₀ k b) (λ k. pass_bit s w₀ k b) v

-- the bits that have not arrived, and the ranks that wait: what falls
abbrev pub missing : Layout → List ℕ → ℕ
missing s w = sum_of (λ v. sum_of (λ b. one (not (out_bit s w v b))) (s.words * 64)) s.n

abbrev pub waiting : Layout → List ℕ → ℕ
waiting s w = sum_of (λ r. one (waits s w r)) s.n

pub record Pushed (s : Layout) (u : ℕ) (w₀ w : List ℕ) : Type 0 where
  pub kept : Within s.wait (out_of s + s.n * s.words) w₀ w
  pub grows : (v b : ℕ) → v < s.n → b < s.words * 64 → out_bit s w₀ v b ≡ true → out_bit s w v b ≡ true
  pub sent : (k b : ℕ) → begins s w₀ u ≤ k → k < ends s w₀ u → b < s.words * 64 → Sends s w₀ u b → out_bit s w (target s w₀ k) b ≡ true
  pub sound : (es : List Edge) → EdgeRows es s.n s.at w₀ → Sound es s w₀ w₀ → Sound es s w₀ w
  pub queued : (v : ℕ) → v < s.n → (waits s w (rank_of s w₀ v) ≡ true) ⊎ ((b : ℕ) → b < s.words * 64 → out_bit s w v b ≡ out_bit s w₀ v b)
  pub still : (r : ℕ) → r < s.n → waits s w₀ r ≡ true → waits s w r ≡ true
  pub ranks : ((r : ℕ) → r < (s.n / 64 + 1) * 64 → waits s w₀ r ≡ true → r < s.n) → (r : ℕ) → r < (s.n / 64 + 1) * 64 → waits s w r ≡ true → r < s.n
  pub falls : (missing s w < missing s w₀) ⊎ (w ≡ w₀)

pub record Begun (s : Layout) (w₀ w : List ℕ) : Type 0 where
  pub kept : Within s.wait (out_of s + s.n * s.words) w₀ w
  pub none : (v b : ℕ) → v < s.n → b < s.words * 64 → out_bit s w v b ≡ false
  pub all : (r : ℕ) → r < s.n → waits s w r ≡ true
  pub ranks : (r : ℕ) → r < (s.n / 64 + 1) * 64 → waits s w r ≡ true → r < s.n

-- `spread`: "arriving at a block = any predecessor's arriving bits that pass, or its leaving bits", the least such rows
pub record Arrived (s : Layout) (w₀ w : List ℕ) : Type 0 where
  pub kept : Within s.wait (out_of s + s.n * s.words) w₀ w
  pub bits : (es : List Edge) → Between s.n es → EdgeRows es s.n s.at w₀
      → (v b : ℕ) → v < s.n → b < s.words * 64 → (out_bit s w v b ≡ true) ↔ Arrives es (λ k. leave_bit s w₀ k b) (λ k. pass_bit s w₀ k b) v
