-- What the range entries refuse: document 01, "Limits and what is turned back", numbers 1, 7 and 10.
use Rattle.std.specs.Prelude.{ℕ, ◌+◌, Bool, true, false, not, ◌||◌, List, [], ◌∷◌, length, ltb, eqb}
use Rattle.refusals.specs.declared.Refusal.TheVariants.{Count, Space}
use Rattle.refusals.specs.Verdicts.{first, in_order, check, counted_on, Verdict}
use Rattle.ranges.specs.declared.Range.{Range}
use Rattle.ranges.specs.Lent.{list_verdict}
use Rattle.ranges.specs.Forms.{columns}

-- number 1: two columns of one list that differ in length, or a list lent that is over its limit
abbrev pub uneven : ℕ → ℕ → Bool
uneven n m = not (eqb n m)

abbrev pub bad_list : List ℕ → List ℕ → Bool
bad_list ss es = uneven (length ss) (length es) || ltb 65536 (length ss)

-- of two: "a second list's ranges are counted on from the first"
unfoldable pub pair_verdict : Bool → List Range → List Range → Verdict
pair_verdict ordered rs ss = first (list_verdict ordered rs) (counted_on (length rs) (list_verdict ordered ss))

-- the checks of each entry, by the lent columns and the lengths of the answer's two columns: numbers 1, 7 ("a range answer under the ranges lent") and 10, in this order
abbrev pub merged_checks : List ℕ → List ℕ → ℕ → ℕ → List Verdict
merged_checks ss es n m = check Count (bad_list ss es || uneven n m) ∷ check Space (ltb n (length ss)) ∷ list_verdict false (columns ss es) ∷ []

-- the list is counted first, then the new range
abbrev pub joined_checks : List ℕ → List ℕ → Range → ℕ → ℕ → List Verdict
joined_checks ss es r n m = check Count (bad_list ss es || uneven n m) ∷ check Space (ltb n (length ss + 1)) ∷ pair_verdict false (columns ss es) (r ∷ []) ∷ []

abbrev pub union_checks : List ℕ → List ℕ → List ℕ → List ℕ → ℕ → ℕ → List Verdict
union_checks ss es ts fs n m =
    check Count (bad_list ss es || (bad_list ts fs || uneven n m)) ∷ check Space (ltb n (length ss + length ts)) ∷ pair_verdict true (columns ss es) (columns ts fs) ∷ []

-- it has no answer list
abbrev pub clashes_checks : List ℕ → List ℕ → List ℕ → List ℕ → List Verdict
clashes_checks ss es ts fs = check Count (bad_list ss es || bad_list ts fs) ∷ pair_verdict true (columns ss es) (columns ts fs) ∷ []

abbrev pub merged_verdict : List ℕ → List ℕ → ℕ → ℕ → Verdict
merged_verdict ss es n m = in_order (merged_checks ss es n m)

abbrev pub joined_verdict : List ℕ → List ℕ → Range → ℕ → ℕ → Verdict
joined_verdict ss es r n m = in_order (joined_checks ss es r n m)

abbrev pub union_verdict : List ℕ → List ℕ → List ℕ → List ℕ → ℕ → ℕ → Verdict
union_verdict ss es ts fs n m = in_order (union_checks ss es ts fs n m)

abbrev pub clashes_verdict : List ℕ → List ℕ → List ℕ → List ℕ → Verdict
clashes_verdict ss es ts fs = in_order (clashes_checks ss es ts fs)
