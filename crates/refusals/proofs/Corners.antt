-- The corners of the definitions, by computation: document 01's numbers, which check wins, and what a refusal leaves in a list.
use Prim.Native.Nat.{ℕ}
use mathlib.Core.Path.{◌≡◌, refl}
use mathlib.Core.Bool.{true, false}
use mathlib.Core.List.{List, [], ◌∷◌, map}
use lib.Dec.{eqb, leb}
use Rattle.refusals.specs.declared.Refusal.{Refusal}
use Rattle.refusals.specs.declared.Refusal.TheVariants.{Count, Line, Edge, Inst, Stray, Piece, Space, List as ListFull, Want, Text, Align, Depth}
use Rattle.refusals.specs.Verdicts.{number_of, rank_of, first, in_order, scan, check, refuses, counted_on, Bad, Fine}
use Rattle.refusals.specs.Outcomes.{given, refused, unless, after}

-- the table's first column, and "lowest number wins, except 11, which comes before all"
abbrev all : List Refusal
all = Count ∷ Line ∷ Edge ∷ Inst ∷ Stray ∷ Piece ∷ Space ∷ ListFull ∷ Want ∷ Text ∷ Align ∷ Depth ∷ []

pub table : (map number_of all ≡ 1 ∷ 2 ∷ 3 ∷ 4 ∷ 5 ∷ 6 ∷ 7 ∷ 9 ∷ 10 ∷ 11 ∷ 12 ∷ 13 ∷ []) × (map rank_of all ≡ 1 ∷ 2 ∷ 3 ∷ 4 ∷ 5 ∷ 6 ∷ 7 ∷ 9 ∷ 10 ∷ 0 ∷ 12 ∷ 13 ∷ [])
table = (refl, refl)

-- the first that refuses wins; of the records 0 to n − 1 the first whose test is true: the last of them counts, the one behind does not
pub wins : (first Fine (Bad Edge 4) ≡ Bad Edge 4) × (first (Bad Edge 4) (Bad Count 0) ≡ Bad Edge 4) × (in_order (Fine ∷ Bad Line 3 ∷ Bad Count 0 ∷ []) ≡ Bad Line 3)
    × (scan Edge (leb 2) 5 ≡ Bad Edge 2) × (scan Edge (eqb 2) 3 ≡ Bad Edge 2) × (scan Edge (eqb 2) 2 ≡ Fine) × (check Space true ≡ Bad Space 0) × (check Space false ≡ Fine) × (refuses (Bad Edge 4) ≡ true) × (refuses Fine ≡ false)
    × (counted_on 5 (Bad Want 2) ≡ Bad Want 7) × (counted_on 5 Fine ≡ Fine)
unfolding first in_order scan
wins = (refl, refl, refl, refl, refl, refl, refl, refl, refl, refl, refl, refl)

-- "a refusal gives the number and the index", "changes no answer list"; "list entries past the answer are unchanged"
pub outcomes : (unless {A = ℕ} (Bad Piece 5) 7 ≡ refused 6 5) × (unless {A = ℕ} Fine 7 ≡ given 7) × (after (refused 6 5) (λ (n : ℕ). n ∷ []) (1 ∷ 2 ∷ []) ≡ 1 ∷ 2 ∷ []) × (after (given 9) (λ (n : ℕ). n ∷ n ∷ []) (1 ∷ 2 ∷ 3 ∷ []) ≡ 9 ∷ 9 ∷ 3 ∷ [])
outcomes = (refl, refl, refl, refl)
