-- What the functions here promise each other. No public promise names these.
use Rattle.std.specs.Prelude.{ℕ, ◌+◌, ◌≤◌, ◌<◌, ◌-◌, ◌≡◌, List, length, get_or, set, ◌≢◌, ◌⊎◌}
use Rattle.graph.specs.Paths.{Edge, Link, Route, Between}
use Rattle.graph.specs.Inner.Work.{Within, EdgeRows}
use Rattle.tarjan.specs.Inner.Moves.{left}
use Rattle.tarjan.specs.Inner.Walk.{seen}
use Rattle.postorder.specs.Settling.{Settling}

-- what the walk asks of the work space: the rows of some graph, below base, and four numbers a place from base on
pub record Walkable (n at base : ℕ) (w : List ℕ) : Type 0 where
  pub edges : List Edge
  pub between : Between n edges
  pub rows : EdgeRows edges n at w
  pub below : at + n + 1 + length edges ≤ base
  pub room : base + n + n + n + n ≤ length w

-- what it leaves: the order from base on, and the rank of each place in it from base + n on
pub record Ordered (n at base : ℕ) (w₀ w : List ℕ) : Type 0 where
  pub kept : Within base (base + n + n + n + n) w₀ w
  pub settling : (es : List Edge) → Between n es → EdgeRows es n at w₀ → Settling es n (λ i. get_or w (base + i) 0)
  pub ranks : (i : ℕ) → i < n → get_or w (base + n + get_or w (base + i) 0) 0 ≡ i

-- The walk in a work space: what each function asks and gives.

-- what was seen stays seen
abbrev pub Still : ℕ → ℕ → List ℕ → List ℕ → Type 0
Still n base w w' = (v : ℕ) → v < n → 0 < get_or w (base + n + n + n + v) 0 → 0 < get_or w' (base + n + n + n + v) 0

-- The state of the walk, and what holds of it at every step.
-- stack: the places that the walk is in, `depth` of them, each with a path to those after it. next v: 0 while v is not seen, else one more than
-- where its next edge stands. order: from `left` on the places that the walk was through with, the last of them first; rank v: where v stands there.

pub record State : Type 0 where
  pub order : ℕ → ℕ
  pub rank : ℕ → ℕ
  pub stack : ℕ → ℕ
  pub next : ℕ → ℕ
  pub depth : ℕ
  pub left : ℕ

-- the state in a list: four regions of n numbers from base on
abbrev pub view : ℕ → ℕ → List ℕ → ℕ → ℕ → State
view n base w depth left = record {
  order = λ i. get_or w (base + i) 0;
  rank = λ i. get_or w (base + n + i) 0;
  stack = λ i. get_or w (base + n + n + i) 0;
  next = λ i. get_or w (base + n + n + n + i) 0;
  depth = depth;
  left = left;
}

-- where the row of a place begins and ends, and what an edge leads to, in a list with edge rows from `at` on
abbrev pub begins : List ℕ → ℕ → ℕ → ℕ
begins w at v = get_or w (at + v) 0

-- v is put on the stack, with none of its edges looked at
abbrev pub push_list : ℕ → ℕ → ℕ → ℕ → ℕ → List ℕ → List ℕ
push_list n at base v depth w = set (set w (base + n + n + depth) v) (base + n + n + n + v) (begins w at v + 1)

abbrev pub ends : List ℕ → ℕ → ℕ → ℕ
ends w at v = get_or w (at + v + 1) 0

-- the looks that are still to come, with one more for each place that is not seen: a turn takes one of them, or takes a place off the stack
abbrev pub to_come : ℕ → ℕ → ℕ → List ℕ → ℕ
to_come n at base w = left n (λ v. ends w at v + 1) (λ v. get_or w (base + n + n + n + v) 0)

abbrev pub target : List ℕ → ℕ → ℕ → ℕ → ℕ
target w n at k = get_or w (at + n + 1 + k) 0

-- v is on the stack
pub record Stacked (z : State) (v : ℕ) : Type 0 where
  pub place : ℕ
  pub lt : place < z.depth
  pub is : z.stack place ≡ v

-- v is in the order
pub record Ranked (n : ℕ) (z : State) (v : ℕ) : Type 0 where
  pub low : z.left ≤ z.rank v
  pub high : z.rank v < n
  pub is : z.order (z.rank v) ≡ v

pub record Walks (es : List Edge) (w : List ℕ) (n at : ℕ) (z : State) : Type 0 where
  pub left_le : z.left ≤ n
  pub total : z.depth + (n - z.left) ≡ seen n z.next
  -- the stack
  pub node : (i : ℕ) → i < z.depth → z.stack i < n
  pub on : (i : ℕ) → i < z.depth → 0 < z.next (z.stack i)
  pub distinct : (i j : ℕ) → i < j → j < z.depth → z.stack i ≢ z.stack j
  pub path : (i j : ℕ) → i < j → j < z.depth → Route es (z.stack i) (z.stack j)
  -- the edges looked at
  pub low : (v : ℕ) → v < n → 0 < z.next v → begins w at v < z.next v
  pub high : (v : ℕ) → v < n → z.next v ≤ ends w at v + 1
  pub known : (i k : ℕ) → i < z.depth → begins w at (z.stack i) ≤ k → k + 1 < z.next (z.stack i) → 0 < z.next (target w n at k)
  -- the order
  pub held : (v : ℕ) → v < n → 0 < z.next v → Stacked z v ⊎ Ranked n z v
  pub listed : (r : ℕ) → z.left ≤ r → r < n → z.order r < n
  pub done : (r : ℕ) → z.left ≤ r → r < n → 0 < z.next (z.order r)
  pub rank_of_lem : (r : ℕ) → z.left ≤ r → r < n → z.rank (z.order r) ≡ r
  pub free : (i r : ℕ) → i < z.depth → z.left ≤ r → r < n → z.order r ≢ z.stack i
  pub settled : (r x : ℕ) → z.left ≤ r → r < n → Link es (z.order r) x → ((r < z.rank x) × Ranked n z x) ⊎ Route es x (z.order r)

-- the edges' rows stand below base, and the walk is as far as the numbers from base on say
pub record Held (es : List Edge) (n at base : ℕ) (w : List ℕ) (depth left : ℕ) : Type 0 where
  pub between : Between n es
  pub rows : EdgeRows es n at w
  pub starts : at + n < base
  pub fits : (j : ℕ) → j < n → at + n + 1 + ends w at j ≤ base
  pub room : base + n + n + n + n ≤ length w
  pub walks : Walks es w n at (view n base w depth left)

-- for some edges
pub record Ready (n at base : ℕ) (w : List ℕ) (depth left : ℕ) : Type 0 where
  pub edges : List Edge
  pub held : Held edges n at base w depth left

-- one turn
pub record Turned (n at base : ℕ) (w : List ℕ) (depth left : ℕ) (w' : List ℕ) (depth' left' : ℕ) : Type 0 where
  pub kept : Within base (base + n + n + n + n) w w'
  pub still : Still n base w w'
  pub falls : to_come n at base w' + depth' < to_come n at base w + depth
  pub held : (es : List Edge) → Held es n at base w depth left → Held es n at base w' depth' left'

-- a whole walk, from root
pub record Walked (n at base root : ℕ) (w : List ℕ) (left : ℕ) (w' : List ℕ) (left' : ℕ) : Type 0 where
  pub kept : Within base (base + n + n + n + n) w w'
  pub still : Still n base w w'
  pub root_seen : 0 < get_or w' (base + n + n + n + root) 0
  pub held : (es : List Edge) → Held es n at base w 0 left → Held es n at base w' 0 left'
