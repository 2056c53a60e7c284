-- What the functions here promise each other. No public promise names these.
use Rattle.std.specs.Prelude.{◌≡◌, Bool, true, false, cond, List, [], ◌∷◌, ℕ, zero, suc, ◌+◌, ◌*◌, ◌/◌, ◌≤◌, ◌<◌, eqb, length, get_or}
use Rattle.words.specs.Inner.{Disjoint}
use Rattle.bits.specs.Bits.{bit_of, bit}

-- the places of x's set bits among its d lowest, lowest first, counted from i
unfoldable pub places : ℕ → ℕ → ℕ → List ℕ
places zero i x = []
places (suc d) i x = cond (bit_of x 0) (i ∷ places d (suc i) (x / 2)) (places d (suc i) (x / 2))

-- bit b of the row is v, and nothing else has changed
pub record PutBit (w₀ w : List ℕ) (base b : ℕ) (v : Bool) : Type 0 where
  pub len : length w ≡ length w₀
  pub bits : (c : ℕ) → bit w base c ≡ cond (eqb c b) v (bit w₀ base c)
  pub rest : (i : ℕ) → (i ≡ base + b / 64 → ⊥) → get_or w i 0 ≡ get_or w₀ i 0

-- the bits of the row of n words at `to` are g's, and nothing else has changed
pub record Row (w₀ w : List ℕ) (to n : ℕ) (g : ℕ → Bool) : Type 0 where
  pub len : length w ≡ length w₀
  pub bits : (c : ℕ) → c < n * 64 → bit w to c ≡ g c
  pub before : (i : ℕ) → i < to → get_or w i 0 ≡ get_or w₀ i 0
  pub after : (i : ℕ) → to + n ≤ i → get_or w i 0 ≡ get_or w₀ i 0

-- the same, with whether a bit of it is new
pub record Grown (w₀ w : List ℕ) (to n : ℕ) (g : ℕ → Bool) (grew : Bool) : Type 0 where
  pub row : Row w₀ w to n g
  pub none : grew ≡ false → w ≡ w₀
  pub some : grew ≡ true → (c : ℕ) × (c < n * 64) × (bit w₀ to c ≡ false) × (bit w to c ≡ true)

-- two rows of n words are the same row, or have no word in common
pub data Aligned (a b n : ℕ) : Type 0 where
  same : a ≡ b → Aligned a b n
  apart : Disjoint a b n → Aligned a b n

-- r is the place of the lowest set bit of the word x
pub record Lowest (x r : ℕ) : Type 0 where
  pub within : r < 64
  pub set : bit_of x r ≡ true
  pub least : (k : ℕ) → k < r → bit_of x k ≡ false

-- y is the word x without its lowest set bit
pub record Without (x y : ℕ) : Type 0 where
  pub less : y < x
  pub bits : (r : ℕ) → Lowest x r → (k : ℕ) → bit_of y k ≡ cond (eqb k r) false (bit_of x k)
  pub next : (r : ℕ) → Lowest x r → (i : ℕ) → places 64 i x ≡ (i + r) ∷ places 64 i y

-- of the bits of the row of n words from word `start` on, r is the first that is set, or the row's end
pub record FirstSet (w : List ℕ) (base n start r : ℕ) : Type 0 where
  pub from : start * 64 ≤ r
  pub within : r ≤ n * 64
  pub set : r < n * 64 → bit w base r ≡ true
  pub least : (c : ℕ) → start * 64 ≤ c → c < r → bit w base c ≡ false
