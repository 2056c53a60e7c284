-- What the functions here promise each other. No public promise names these.
use Rattle.std.specs.Prelude.{ℕ, zero, suc, ◌+◌, ◌-◌, ◌<◌, ◌≡◌, Bool, cond, List, [], ◌∷◌, ◌++◌, length, get_or, drop, ltb, eqb}
use Rattle.words.specs.Widths.{item_row_count, item_cell}

-- How many items are in a cell, and the slots that are not alone in theirs.

-- how many of the first n items are in cell c
unfoldable pub members : List ℕ → ℕ → ℕ → ℕ
members items c zero = 0
members items c (suc n) = members items c n + cond (eqb (item_cell items n) c) 1 0

-- of every item
abbrev pub members_in : List ℕ → ℕ → ℕ
members_in items c = members items c (item_row_count items)

-- a count for each cell
pub record Counted (items counts : List ℕ) (n : ℕ) : Type 0 where
  pub known : (i : ℕ) → i < item_row_count items → item_cell items i < length counts
  pub is : (c : ℕ) → c < length counts → get_or counts c 0 ≡ members items c n

-- the numbers below n that pass a test, rising
unfoldable pub picks : (ℕ → Bool) → ℕ → List ℕ
picks t zero = []
picks t (suc n) = picks t n ++ cond (t n) (n ∷ []) []

-- slot s is in a cell with two or more members
abbrev pub crowded_slot : List ℕ → ℕ → ℕ → Bool
crowded_slot items locals s = ltb 1 (members_in items (item_cell items (locals + s)))

abbrev pub crowded_slots : List ℕ → ℕ → List ℕ
crowded_slots items locals = picks (crowded_slot items locals) (item_row_count items - locals)

pub record Picked (l out out' : List ℕ) (r : ℕ) : Type 0 where
  pub count : r ≡ length l
  pub list : out' ≡ l ++ drop (length l) out
