-- The corners of the checks of fitting alone, by computation: each limit at it and one past, each check where it turns, every field told apart.
use Prim.Native.Nat.{ℕ}
use mathlib.Core.Path.{◌≡◌, refl}
use mathlib.Core.Bool.{true, false}
use mathlib.Core.List.{List, [], ◌∷◌}
use Rattle.refusals.specs.declared.Refusal.TheVariants.{Count, Space, Want as WantRefused}
use Rattle.refusals.specs.Verdicts.{first, in_order, scan, Bad, Fine}
use Rattle.words.specs.Rows.{tabulate}
use Rattle.ranges.specs.Lent.{list_verdict}
use Rattle.want_checks.specs.Checks.{wants_verdict, over_limit, bad_count, space_of, bad_space, verdict}

-- number 1: "2,048 wants of locals and 2,048 of slots", locals no more than the wants, "the area list 65,536", "budget 1,048,576"
pub limits : (over_limit 4096 65536 2048 1048576 ≡ false) × (over_limit 4096 0 2049 0 ≡ true) × (over_limit 4096 0 2047 0 ≡ true) × (over_limit 5 0 5 0 ≡ false) × (over_limit 5 0 6 0 ≡ true) × (over_limit 0 65537 0 0 ≡ true) × (over_limit 0 0 0 1048577 ≡ true)
limits = (refl, refl, refl, refl, refl, refl, refl)

-- a want: size, align, present, first, count; two of them, over ranges 1–2, 4–5, 5–6
abbrev want : ℕ → ℕ → ℕ → List ℕ
want present first count = 8 ∷ 4 ∷ 1 ∷ 0 ∷ 2 ∷ 8 ∷ 4 ∷ present ∷ first ∷ count ∷ []

abbrev areas : List ℕ
areas = 1 ∷ 2 ∷ 4 ∷ 5 ∷ 5 ∷ 6 ∷ []

-- a list that is no whole rows
pub whole : (bad_count (want 1 0 1) areas 1 9 4 8 ≡ false) × (bad_count (8 ∷ 4 ∷ []) areas 0 9 4 8 ≡ true) × (bad_count (want 1 0 1) (1 ∷ []) 1 9 4 8 ≡ true) × (bad_count (want 1 0 1) areas 1 9 3 8 ≡ true) × (bad_count (want 1 0 1) areas 1 9 4 6 ≡ true)
whole = (refl, refl, refl, refl, refl)

-- W = 8 × (wants + length of the area list); number 7: at what is asked and one short
pub spaces : (space_of (want 1 0 1) areas ≡ 40) × (bad_space (want 1 0 1) areas 4 8 2 40 ≡ false) × (bad_space (want 1 0 1) areas 4 8 2 39 ≡ true) × (bad_space (want 1 0 1) areas 2 8 2 40 ≡ true) × (bad_space (want 1 0 1) areas 4 4 2 40 ≡ true)
    × (bad_space (want 1 0 1) areas 4 8 1 40 ≡ true)
spaces = (refl, refl, refl, refl, refl, refl)

-- number 10, by want: "an area outside its list": to the last range, one past; "reversed, unsorted or overlapping itself"; an absent want's part is not read, an empty one is allowed
pub parts : (wants_verdict areas (want 1 2 1) ≡ Fine) × (wants_verdict areas (want 1 2 2) ≡ Bad WantRefused 1) × (wants_verdict areas (want 1 1 2) ≡ Bad WantRefused 1) × (wants_verdict areas (want 2 1 2) ≡ Bad WantRefused 1)
    × (wants_verdict areas (want 0 9 9) ≡ Fine) × (wants_verdict areas (want 1 3 0) ≡ Fine) × (wants_verdict areas (want 1 4 0) ≡ Bad WantRefused 1)
unfolding first scan tabulate list_verdict
parts = (refl, refl, refl, refl, refl, refl, refl)

-- 1 before 7 before 10
pub order : (verdict (want 1 1 2) areas 1 1048577 4 8 2 0 ≡ Bad Count 0) × (verdict (want 1 1 2) areas 1 9 4 8 2 39 ≡ Bad Space 0) × (verdict (want 1 1 2) areas 1 9 4 8 2 40 ≡ Bad WantRefused 1)
unfolding first in_order scan tabulate list_verdict verdict
order = (refl, refl, refl)
