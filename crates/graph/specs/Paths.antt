-- Document 01, "Blocks and edges": edges between places of the line, paths of one or more of them, and components.
use Rattle.std.specs.Prelude.{ℕ, ◌<◌, ◌≡◌}
use mathlib.Core.List.{List, [], ◌∷◌, Memᴰ}

-- an edge from the block at one place to the block at another
pub record Edge : Type 0 where
  pub src : ℕ
  pub dst : ℕ

abbrev pub edge : ℕ → ℕ → Edge
edge j k = record { src = j; dst = k }

-- an edge leads from place j to place k
abbrev pub Link : List Edge → ℕ → ℕ → Type 0
Link es j k = Memᴰ (edge j k) es

-- j reaches k: a path of one or more edges
pub data Route (es : List Edge) : ℕ → ℕ → Type 0 where
  one : {j k : ℕ} → Link es j k → Route es j k
  more : {j k l : ℕ} → Route es j k → Link es k l → Route es j l

-- the edges the other way round: predecessors for successors
abbrev pub turned : List Edge → List Edge
turned [] = []
turned (e ∷ es) = edge e.dst e.src ∷ turned es

-- "places are in one component exactly when each reaches the other"; a lone block is a component of one
pub data Together (es : List Edge) (j k : ℕ) : Type 0 where
  same : j ≡ k → Together es j k
  loop : Route es j k → Route es k j → Together es j k

-- every edge leads from one of n places to another
pub record Between (n : ℕ) (es : List Edge) : Type 0 where
  pub from : (e : Edge) → Memᴰ e es → e.src < n
  pub to : (e : Edge) → Memᴰ e es → e.dst < n
