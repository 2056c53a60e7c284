-- What the functions here promise each other. No public promise names these.
use Rattle.std.specs.Prelude.{◌≡◌, ◌≢◌, ℕ, zero, suc, ◌+◌, ◌≤◌, ◌<◌}
use Rattle.tarjan.specs.Inner.Graph.{Graph, Edge, Reach}

-- The state of Tarjan's walk, and what holds of it at every step. Assumes nothing.
-- num v: 0 if v was not seen; p + 1 if v is held, at place p of the stack; n + 1 + piece if v is closed.
-- stk: the held nodes, s of them. fr: the places of those still being walked, the frames, d of them, the lowest first.
-- lw i: the lowest place that an edge from frame i, or from a frame over it that was left, went to.
-- nxt v: the next edge of v to look at. c: the pieces closed. ord: the closed nodes, e of them, piece after piece.

pub record State : Type 0 where
  pub num : ℕ → ℕ
  pub stk : ℕ → ℕ
  pub fr : ℕ → ℕ
  pub lw : ℕ → ℕ
  pub nxt : ℕ → ℕ
  pub ord : ℕ → ℕ
  pub s : ℕ
  pub d : ℕ
  pub c : ℕ
  pub e : ℕ

-- b is the bottom of what may still turn out to be one piece: a frame that no frame over it goes below
pub record Bound (fr lw : ℕ → ℕ) (d b : ℕ) : Type 0 where
  pub i : ℕ
  pub lt : i < d
  pub is : fr i ≡ b
  pub low : (j : ℕ) → i ≤ j → j < d → b ≤ lw j

-- the place q is in the same part of the stack as p or in a later
abbrev pub Fwd : (ℕ → ℕ) → (ℕ → ℕ) → ℕ → ℕ → ℕ → Type 0
Fwd fr lw d p q = (b : ℕ) → Bound fr lw d b → b ≤ p → b ≤ q

abbrev pub one : ℕ → ℕ
one zero = 0
one (suc m) = 1

-- how many of the first m are not 0
unfoldable pub seen : ℕ → (ℕ → ℕ) → ℕ
seen zero f = 0
seen (suc m) f = one (f m) + seen m f

pub record Inv (G : Graph) (z : State) : Type 0 where
  pub node : (p : ℕ) → p < z.s → z.stk p < G.n
  pub held : (p : ℕ) → p < z.s → z.num (z.stk p) ≡ suc p
  pub place : (v p : ℕ) → v < G.n → z.num v ≡ suc p → p < G.n → (p < z.s) × (z.stk p ≡ v)
  pub first : z.d ≡ 0 → z.s ≡ 0
  pub bottom : 0 < z.d → z.fr 0 ≡ 0
  pub rising : (i j : ℕ) → i < j → j < z.d → z.fr i < z.fr j
  pub framed : (i : ℕ) → i < z.d → z.fr i < z.s
  pub low : (i : ℕ) → i < z.d → z.lw i ≤ z.fr i
  pub count : z.c + z.s ≤ seen G.n z.num
  pub begun : (v : ℕ) → v < G.n → G.beg v ≤ z.nxt v
  pub ended : (v : ℕ) → v < G.n → z.nxt v ≤ G.end v
  pub fresh : (v : ℕ) → v < G.n → z.num v ≡ 0 → z.nxt v ≤ G.beg v
  pub spent : (p : ℕ) → p < z.s → ((i : ℕ) → i < z.d → z.fr i ≢ p) → G.end (z.stk p) ≤ z.nxt (z.stk p)
  pub known : (p k : ℕ) → p < z.s → G.beg (z.stk p) ≤ k → k < z.nxt (z.stk p) → 0 < z.num (G.tgt k)
  pub fwd : (p k q : ℕ) → p < z.s → G.beg (z.stk p) ≤ k → k < z.nxt (z.stk p) → z.num (G.tgt k) ≡ suc q → q < G.n
      → Fwd z.fr z.lw z.d p q
  pub reach : (p q : ℕ) → p < z.s → q < z.s → Fwd z.fr z.lw z.d p q → Reach G (z.stk p) (z.stk q)
  pub below : (v : ℕ) → v < G.n → G.n < z.num v → z.num v ≤ G.n + z.c
  pub shut : (v w : ℕ) → v < G.n → G.n < z.num v → Edge G v w → (G.n < z.num w) × (z.num w ≤ z.num v)
  pub joined : (u v : ℕ) → u < G.n → v < G.n → G.n < z.num u → z.num u ≡ z.num v → Reach G u v
  pub used : (x : ℕ) → x < z.c → (v : ℕ) × (v < G.n) × (z.num v ≡ suc (G.n + x))

pub record Order (n : ℕ) (num ord : ℕ → ℕ) (s e : ℕ) : Type 0 where
  pub total : e + s ≡ seen n num
  pub listed : (i : ℕ) → i < e → (ord i < n) × (n < num (ord i))
  pub sorted : (i j : ℕ) → i ≤ j → j < e → num (ord i) ≤ num (ord j)
  pub every : (v : ℕ) → v < n → n < num v → (i : ℕ) × (i < e) × (ord i ≡ v)
  pub once : (i j : ℕ) → i < j → j < e → ord i ≢ ord j

-- both, of a state
pub record Walks (G : Graph) (z : State) : Type 0 where
  pub inv : Inv G z
  pub order : Order G.n z.num z.ord z.s z.e
