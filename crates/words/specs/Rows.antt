-- Records as rows of numbers: row i of width w stands at the numbers w * i to w * i + w - 1.
use Rattle.std.specs.Prelude.{ℕ, zero, suc, ◌+◌, ◌*◌, ◌/◌, ◌%◌, Bool, List, [], ◌∷◌, ◌++◌, length, get_or, eqb}

-- f's values at 0 to n - 1
unfoldable pub tabulate : {A : Type 0} → ℕ → (ℕ → A) → List A
tabulate zero f = []
tabulate (suc n) f = f 0 ∷ tabulate n (λ i. f (suc i))

-- how many whole rows of width w there are, and whether the numbers are whole rows
abbrev pub row_count : ℕ → List ℕ → ℕ
row_count w s = length s / w

abbrev pub whole_rows : ℕ → List ℕ → Bool
whole_rows w s = eqb (length s % w) 0

-- field f of row i
abbrev pub field : ℕ → List ℕ → ℕ → ℕ → ℕ
field w s i f = get_or s (w * i + f) 0

-- the records of a list of numbers, each made from its row's fields
abbrev pub records : {A : Type 0} → ℕ → ((ℕ → ℕ) → A) → List ℕ → List A
records w make s = tabulate (row_count w s) (λ i. make (field w s i))

-- rows one after another
unfoldable pub flat : List (List ℕ) → List ℕ
flat [] = []
flat (r ∷ rs) = r ++ flat rs
