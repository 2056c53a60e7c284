-- The rows of `flowed` and `spread` as definitions that compute, for one bit: a round works out every block's bit from the round before,
-- at the start all empty. As many rounds as there are blocks are enough, and one more changes nothing (proofs/RoundLaws).
use Rattle.std.specs.Prelude.{ℕ, zero, suc, Bool, true, false, ◌&&◌, ◌||◌, List, [], ◌∷◌, eqb}
use Rattle.graph.specs.Paths.{Edge, turned}

-- the edge brings the bit: "any predecessor's arriving bits that pass, or its leaving bits"
abbrev pub brings : (ℕ → Bool) → (ℕ → Bool) → (ℕ → Bool) → Edge → Bool
brings leaves passes row e = leaves e.src || row e.src && passes e.src

-- some edge brings the bit to the block at place k
unfoldable pub fed : (ℕ → Bool) → (ℕ → Bool) → List Edge → (ℕ → Bool) → ℕ → Bool
fed leaves passes [] row k = false
fed leaves passes (e ∷ es) row k = eqb e.dst k && brings leaves passes row e || fed leaves passes es row k

unfoldable pub round : List Edge → (ℕ → Bool) → (ℕ → Bool) → ℕ → ℕ → Bool
round es leaves passes zero k = false
round es leaves passes (suc n) k = fed leaves passes es (round es leaves passes n) k

-- of n blocks: `flowed` over predecessors, `flowed` over successors, `spread`
abbrev pub reached_row : ℕ → List Edge → (ℕ → Bool) → ℕ → Bool
reached_row n es touched = round es touched (λ k. true) n

abbrev pub reaching_row : ℕ → List Edge → (ℕ → Bool) → ℕ → Bool
reaching_row n es touched = round (turned es) touched (λ k. true) n

abbrev pub arriving_row : ℕ → List Edge → (ℕ → Bool) → (ℕ → Bool) → ℕ → Bool
arriving_row n es leaves passes = round es leaves passes n
