-- What the functions here promise each other. No public promise names these.
use Rattle.std.specs.Prelude.{ℕ, ◌+◌, ◌-◌, ◌≤◌, ◌<◌, List, length, get_or, take, drop, if◌then◌else◌, nat_eq}

-- The columns of a case, by where each ends.

-- of the first n columns each ends where or after the one before does, and all within so many numbers
pub record RisingTo (ends : List ℕ) (most n : ℕ) : Type 0 where
  pub rise : (i : ℕ) → i + 1 < n → get_or ends i 0 ≤ get_or ends (i + 1) 0
  pub within : (i : ℕ) → i < n → get_or ends i 0 ≤ most

abbrev pub Rising : List ℕ → ℕ → Type 0
Rising ends most = RisingTo ends most (length ends)

-- where column k begins: where the one before it ends
abbrev pub begin_of : List ℕ → ℕ → ℕ
begin_of ends k = if nat_eq k 0 then 0 else get_or ends (k - 1) 0

-- column k of these numbers
abbrev pub column_of : List ℕ → List ℕ → ℕ → List ℕ
column_of numbers ends k = take (get_or ends k 0 - begin_of ends k) (drop (begin_of ends k) numbers)
