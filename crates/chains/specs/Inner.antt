-- What the functions here promise each other. No public promise names these.
use Rattle.std.specs.Prelude.{ℕ, ◌+◌, ◌-◌, ◌≤◌, ◌<◌, ◌≡◌, ◌⊎◌, cond, List, [], ◌∷◌, length, get_or, eqb}
use Rattle.words.specs.Rows.{tabulate}
use Rattle.words.specs.Inner.{part}
use Rattle.graph.specs.Inner.Work.{Within}
use Rattle.carrying.specs.Lists.{gather}
use Rattle.reach.specs.Inner.{latest}

-- Rows whose numbers are f's, chained by number in the work space, and what a walk along one chain writes.

-- the n rows of each number below `keys` as a chain, last first: the last at the number's head, and at each row the one before it, each plus 1, or 0 where there is none
pub record Chain (f : ℕ → ℕ) (n keys heads nexts : ℕ) (w : List ℕ) : Type 0 where
  pub head : (l : ℕ) → l < keys → get_or w (heads + l) 0 ≡ latest f l n
  pub next : (i : ℕ) → i < n → f i < keys → get_or w (nexts + i) 0 ≡ latest f (f i) i

-- the rows are chained: nothing else has changed but the heads and what stands before each row
pub record Linked (f : ℕ → ℕ) (n keys heads nexts : ℕ) (w₀ w : List ℕ) : Type 0 where
  pub len : length w ≡ length w₀
  pub outside : (i : ℕ) → (i < heads) ⊎ (heads + keys ≤ i) → (i < nexts) ⊎ (nexts + n ≤ i) → get_or w i 0 ≡ get_or w₀ i 0
  pub chain : Chain f n keys heads nexts w

-- number l's chain stands before a region that ends at top and has room for a word a row
pub record Walkable (f : ℕ → ℕ) (n l heads nexts top : ℕ) (w : List ℕ) : Type 0 where
  pub heads_fit : heads + l < nexts
  pub nexts_fit : nexts + n + n ≤ top
  pub top_fits : top ≤ length w
  pub head : get_or w (heads + l) 0 ≡ latest f l n
  pub next : (i : ℕ) → i < n → f i ≡ l → get_or w (nexts + i) 0 ≡ latest f l i

-- the words v of number l's rows, in lent order
abbrev pub words_of : (ℕ → ℕ) → (ℕ → ℕ) → ℕ → ℕ → List ℕ
words_of f v l n = gather (λ i. cond (eqb (f i) l) (v i ∷ []) []) (tabulate n (λ i. i))

-- these c words stand last in the region
pub record Walked (f v : ℕ → ℕ) (n l top : ℕ) (w₀ w : List ℕ) (c : ℕ) : Type 0 where
  pub kept : Within (top - n) top w₀ w
  pub few : c ≤ n
  pub words : part (top - c) c w ≡ words_of f v l n
