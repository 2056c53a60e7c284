-- ★1's plan, printed: of the definitions.
use mathlib.Core.Path.{◌≡◌, refl}
use mathlib.Core.List.{List, [], ◌∷◌}
use Prim.Native.Nat.{ℕ}
use Rattle.words.specs.Rows.{tabulate, flat}
use Rattle.fitting.specs.Queries.{count_in}
use Rattle.text_grammar.specs.Numerals.{digits_of}
use Rattle.text_plan.specs.Lines.{fields_text}
use Rattle.text_plan.specs.Printed.{printed, refusal_text}

unfoldable pub star : List ℕ
star =
    -- C,0,8,8
    67 ∷ 44 ∷ 48 ∷ 44 ∷ 56 ∷ 44 ∷ 56 ∷ 10 ∷
    -- L,0,0
    76 ∷ 44 ∷ 48 ∷ 44 ∷ 48 ∷ 10 ∷
    -- L,1,0
    76 ∷ 44 ∷ 49 ∷ 44 ∷ 48 ∷ 10 ∷
    -- G,0,2,3
    71 ∷ 44 ∷ 48 ∷ 44 ∷ 50 ∷ 44 ∷ 51 ∷ 10 ∷
    -- G,1,6,7
    71 ∷ 44 ∷ 49 ∷ 44 ∷ 54 ∷ 44 ∷ 55 ∷ 10 ∷
    -- T,1,1,1,8
    84 ∷ 44 ∷ 49 ∷ 44 ∷ 49 ∷ 44 ∷ 49 ∷ 44 ∷ 56 ∷ 10 ∷ []

-- one cell of size and alignment 8 for both locals, with the areas 2–3 and 6–7; one probe, depth 8
pub star_1 : printed (8 ∷ 8 ∷ []) (0 ∷ 1 ∷ 0 ∷ 1 ∷ 0 ∷ 1 ∷ 1 ∷ 1 ∷ []) (2 ∷ 3 ∷ 6 ∷ 7 ∷ []) 2 1 8 ≡ star
unfolding star tabulate flat count_in digits_of fields_text
star_1 = refl

-- "a refusal prints only `N,number,index`": N,11,4
pub refusal_11 : refusal_text 11 4 ≡ 78 ∷ 44 ∷ 49 ∷ 49 ∷ 44 ∷ 52 ∷ 10 ∷ []
unfolding digits_of fields_text
refusal_11 = refl
