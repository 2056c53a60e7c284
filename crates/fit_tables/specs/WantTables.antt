-- The words of the tables by the lent rows, and the rows of the answer lists by the tables.
use Rattle.std.specs.Prelude.{ℕ, cond, List, [], ◌∷◌, eqb}

-- items 4 numbers: cell, present, first, count; "an item without area has 0, 0, 0 there"
abbrev pub item_row : ℕ → ℕ → ℕ → ℕ → List ℕ
item_row cell present first count = cond (eqb present 0) (cell ∷ 0 ∷ 0 ∷ 0 ∷ []) (cell ∷ 1 ∷ first ∷ count ∷ [])
