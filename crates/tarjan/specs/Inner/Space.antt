-- What the functions here promise each other. No public promise names these.
use Rattle.std.specs.Prelude.{◌≡◌, List, ℕ, suc, ◌+◌, ◌-◌, ◌≤◌, ◌<◌, length, get_or, set}
use Rattle.tarjan.specs.Inner.Graph.{Graph, Sound, ComponentsOf, Listed}
use Rattle.tarjan.specs.Inner.Walk.{Walks}
use Rattle.tarjan.specs.Inner.Moves.{view, shut_at, pasted, left}

-- The walk in a work space: what each function asks and gives.
-- The row starts stand from `at` on, the targets from `to` on, both below base, and the six regions of the state from base on.
-- Assumes nothing.

pub record Rows : Type 0 where
  pub beg : ℕ → ℕ
  pub end : ℕ → ℕ
  pub tgt : ℕ → ℕ

abbrev pub graph : ℕ → Rows → Graph
graph n R = record { n = n; beg = R.beg; end = R.end; tgt = R.tgt }

abbrev pub rows_of : ℕ → ℕ → List ℕ → Rows
rows_of at to w = record { beg = λ u. get_or w (at + u) 0; end = λ u. get_or w (at + u + 1) 0; tgt = λ k. get_or w (to + k) 0 }

-- the graph's rows are those of w
pub record Reads (R : Rows) (n at to base : ℕ) (w : List ℕ) : Type 0 where
  pub sound : Sound (graph n R)
  pub starts : at + n < base
  pub ends : (u : ℕ) → u < n → to + R.end u ≤ base
  pub beg_is : (u : ℕ) → u < n → get_or w (at + u) 0 ≡ R.beg u
  pub end_is : (u : ℕ) → u < n → get_or w (at + u + 1) 0 ≡ R.end u
  pub tgt_is : (u k : ℕ) → u < n → R.beg u ≤ k → k < R.end u → get_or w (to + k) 0 ≡ R.tgt k
  pub room : base + n + n + n + n + n + n ≤ length w

pub record Held (R : Rows) (n at to base : ℕ) (w : List ℕ) (s d c e : ℕ) : Type 0 where
  pub reads : Reads R n at to base w
  pub walks : Walks (graph n R) (view n base w s d c e)

-- for some rows
pub record Ready (n at to base : ℕ) (w : List ℕ) (s d c e : ℕ) : Type 0 where
  pub rows : Rows
  pub held : Held rows n at to base w s d c e

-- nothing changed but in the six regions
pub record Kept (n base : ℕ) (w w' : List ℕ) : Type 0 where
  pub len : length w' ≡ length w
  pub below : (j : ℕ) → j < base → get_or w' j 0 ≡ get_or w j 0
  pub past : (j : ℕ) → base + n + n + n + n + n + n ≤ j → get_or w' j 0 ≡ get_or w j 0

-- what was seen stays seen
abbrev pub Still : ℕ → ℕ → List ℕ → List ℕ → Type 0
Still n base w w' = (v : ℕ) → v < n → 0 < get_or w (base + v) 0 → 0 < get_or w' (base + v) 0

abbrev pub left_of : ℕ → ℕ → ℕ → List ℕ → ℕ
left_of n at base w = left n (λ v. get_or w (at + v + 1) 0) (λ v. get_or w (base + n + n + n + n + v) 0)

-- v is put on the stack and on the frames
abbrev pub push_list : ℕ → ℕ → ℕ → ℕ → ℕ → List ℕ → List ℕ
push_list n base v s d w = set (set (set (set w (base + v) (s + 1)) (base + n + s) v) (base + n + n + d) s) (base + n + n + n + d) s

-- what `close` asks
pub record Closes (n base : ℕ) (w : List ℕ) (p s e : ℕ) : Type 0 where
  pub room : base + n + n + n + n + n + n ≤ length w
  pub p_le : p ≤ s
  pub s_le : s ≤ n
  pub e_le : e + (s - p) ≤ n
  pub node : (i : ℕ) → i < s → get_or w (base + n + i) 0 < n
  pub held : (i : ℕ) → i < s → get_or w (base + get_or w (base + n + i) 0) 0 ≡ suc i
  pub place : (v i : ℕ) → v < n → i < s → get_or w (base + v) 0 ≡ suc i → get_or w (base + n + i) 0 ≡ v

-- the places from p up to i of the stack are closed, as x
pub record Closed (n base : ℕ) (w : List ℕ) (p x e i : ℕ) (w' : List ℕ) : Type 0 where
  pub kept : Kept n base w w'
  pub num : (j : ℕ) → j < n → get_or w' (base + j) 0 ≡ shut_at i p x (λ t. get_or w (base + t) 0) j
  pub mid : (j : ℕ) → base + n ≤ j → j < base + n + n + n + n + n → get_or w' j 0 ≡ get_or w j 0
  pub ord : (j : ℕ) → j < e + (i - p) → get_or w' (base + n + n + n + n + n + j) 0
      ≡ pasted (λ t. get_or w (base + n + n + n + n + n + t) 0) e (λ t. get_or w (base + n + t) 0) p j

-- one turn
pub record Turned (n at to base : ℕ) (w : List ℕ) (s d c e : ℕ) (w' : List ℕ) (s' d' c' e' : ℕ) : Type 0 where
  pub kept : Kept n base w w'
  pub still : Still n base w w'
  pub falls : left_of n at base w' + left_of n at base w' + d' < left_of n at base w + left_of n at base w + d
  pub held : (R : Rows) → Held R n at to base w s d c e → Held R n at to base w' s' d' c' e'

-- the place and the node of the top frame, and the node's next edge
abbrev pub Pl : ℕ → ℕ → List ℕ → ℕ → ℕ
Pl n base w d = get_or w (base + n + n + (d - 1)) 0

abbrev pub Nd : ℕ → ℕ → List ℕ → ℕ → ℕ
Nd n base w d = get_or w (base + n + Pl n base w d) 0

abbrev pub Ed : ℕ → ℕ → List ℕ → ℕ → ℕ
Ed n base w d = get_or w (base + n + n + n + n + Nd n base w d) 0

-- what `look` asks: the top frame's node has an edge left, k; where the frame's low and the node's next edge stand
pub record Looking (n to base : ℕ) (w : List ℕ) (s d c e k low next : ℕ) : Type 0 where
  pub at : ℕ
  pub some : 0 < d
  pub ready : Ready n at to base w s d c e
  pub k_is : k ≡ Ed n base w d
  pub low_is : low ≡ base + n + n + n + (d - 1)
  pub next_is : next ≡ base + n + n + n + n + Nd n base w d
  pub more : Ed n base w d < get_or w (at + Nd n base w d + 1) 0

-- and gives: a turn, wherever the rows start
abbrev pub Looked : ℕ → ℕ → ℕ → List ℕ → ℕ → ℕ → ℕ → ℕ → List ℕ → ℕ → ℕ → ℕ → ℕ → Type 0
Looked n to base w s d c e w' s' d' c' e' =
    (at : ℕ) → Ready n at to base w s d c e → Ed n base w d < get_or w (at + Nd n base w d + 1) 0 → Turned n at to base w s d c e w' s' d' c' e'

-- what `leave` asks: the top frame's node, at place p, has no edge left
pub record Leaving (n base : ℕ) (w : List ℕ) (s d c e p low : ℕ) : Type 0 where
  pub at : ℕ
  pub to : ℕ
  pub some : 0 < d
  pub ready : Ready n at to base w s d c e
  pub p_is : p ≡ Pl n base w d
  pub low_is : low ≡ base + n + n + n + (d - 1)
  pub done : get_or w (at + Nd n base w d + 1) 0 ≤ Ed n base w d

abbrev pub Left : ℕ → ℕ → List ℕ → ℕ → ℕ → ℕ → ℕ → List ℕ → ℕ → ℕ → ℕ → ℕ → Type 0
Left n base w s d c e w' s' d' c' e' =
    (at to : ℕ) → Ready n at to base w s d c e → get_or w (at + Nd n base w d + 1) 0 ≤ Ed n base w d → Turned n at to base w s d c e w' s' d' c' e'

-- a whole walk, from root
pub record Walked (n at to base root : ℕ) (w : List ℕ) (c e : ℕ) (w' : List ℕ) (c' e' : ℕ) : Type 0 where
  pub kept : Kept n base w w'
  pub still : Still n base w w'
  pub root_seen : 0 < get_or w' (base + root) 0
  pub held : (R : Rows) → Held R n at to base w 0 0 c e → Held R n at to base w' 0 0 c' e'

-- what all walks together ask, and what they give
pub record Given (n at to base : ℕ) (w : List ℕ) : Type 0 where
  pub room : base + n + n + n + n + n + n ≤ length w
  pub starts : at + n < base
  pub ascending : (u : ℕ) → u < n → get_or w (at + u) 0 ≤ get_or w (at + u + 1) 0
  pub ends : (u : ℕ) → u < n → to + get_or w (at + u + 1) 0 ≤ base
  pub nodes : (u k : ℕ) → u < n → get_or w (at + u) 0 ≤ k → k < get_or w (at + u + 1) 0 → get_or w (to + k) 0 < n

pub record Pieced (n at to base : ℕ) (w w' : List ℕ) (count : ℕ) : Type 0 where
  pub kept : Kept n base w w'
  pub pieces : ComponentsOf (graph n (rows_of at to w)) (λ v. get_or w' (base + v) 0) count
  pub listed : Listed n (λ v. get_or w' (base + v) 0) (λ i. get_or w' (base + n + n + n + n + n + i) 0)

-- nothing seen yet, each node's edges all to look at
pub record Begun (n at base : ℕ) (w : List ℕ) (i : ℕ) (w' : List ℕ) : Type 0 where
  pub kept : Kept n base w w'
  pub num : (v : ℕ) → v < i → get_or w' (base + v) 0 ≡ 0
  pub nxt : (v : ℕ) → v < i → get_or w' (base + n + n + n + n + v) 0 ≡ get_or w (at + v) 0

-- the first i numbers become the pieces'
pub record Numbered (n base : ℕ) (w : List ℕ) (i : ℕ) (w' : List ℕ) : Type 0 where
  pub kept : Kept n base w w'
  pub num : (v : ℕ) → v < i → get_or w' (base + v) 0 ≡ get_or w (base + v) 0 - suc n
  pub rest : (j : ℕ) → base + i ≤ j → get_or w' j 0 ≡ get_or w j 0
