-- What the functions here promise each other. No public promise names these.
use Rattle.std.specs.Prelude.{ℕ, ◌/◌, ◌+◌, ◌-◌, ◌%◌, ◌^◌, List, [], ◌∷◌, get_or, cond, eqb}
use Rattle.words.specs.Rows.{tabulate, flat}
use Rattle.answer_rows.specs.declared.Item.{Item}

-- Rows of two numbers by the words of the work space.

-- a word's halves, and a row of them for each of n words, each less `less`
abbrev pub halves : ℕ → List ℕ
halves x = x / 2 ^ 32 ∷ x % 2 ^ 32 ∷ []

abbrev pub rows_in : List ℕ → ℕ → ℕ → ℕ → List ℕ
rows_in w from n less = flat (tabulate n (λ i. halves (get_or w (from + i) 0 - less)))

-- The rows of items by the words of the work space.

-- an item by its word
abbrev pub item_of : ℕ → Item
item_of x = record { present = cond (eqb x 0) 0 1; first = (x - 1) / 2 ^ 32; count = (x - 1) % 2 ^ 32 }

abbrev pub row_of : ℕ → List ℕ
row_of x = (item_of x).present ∷ (item_of x).first ∷ (item_of x).count ∷ []

abbrev pub rows_of : List ℕ → ℕ → ℕ → List ℕ
rows_of w from n = flat (tabulate n (λ i. row_of (get_or w (from + i) 0)))
