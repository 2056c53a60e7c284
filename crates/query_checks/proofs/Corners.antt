-- The corners of the queries' checks, by computation: each limit at it and one past, each check where it turns, every field told apart.
use Prim.Native.Nat.{ℕ, ◌*◌}
use mathlib.Core.Path.{◌≡◌, refl}
use mathlib.Core.Bool.{true, false}
use mathlib.Core.List.{List, [], ◌∷◌}
use lib.ListN.{length}
use Rattle.refusals.specs.declared.Refusal.TheVariants.{Count, Space, Want}
use Rattle.refusals.specs.Verdicts.{first, in_order, scan, Bad, Fine}
use Rattle.query_checks.specs.Checks.{bad_count, plan_verdict, bad_areas, outside, shared_verdict, crowded_verdict}
use Rattle.words.specs.Widths.{item_width, range_width}

-- three items, two locals and a slot, in two cells; the fields of an item are cell, present, first, count
abbrev cells : List ℕ
cells = 16 ∷ 8 ∷ 4 ∷ 2 ∷ []

abbrev items : List ℕ
items = 1 ∷ 1 ∷ 0 ∷ 1 ∷ 0 ∷ 1 ∷ 1 ∷ 2 ∷ 1 ∷ 1 ∷ 3 ∷ 1 ∷ []

abbrev areas : List ℕ
areas = 0 ∷ 1 ∷ 3 ∷ 4 ∷ 6 ∷ 7 ∷ 9 ∷ 9 ∷ []

-- number 1: locals at the item count and one over it; a list that is no whole rows
pub counts : (bad_count cells items 3 ≡ false) × (bad_count cells items 4 ≡ true) × (bad_count (0 ∷ []) items 3 ≡ true) × (bad_count cells (0 ∷ 0 ∷ []) 0 ≡ true) × (bad_count [] [] 0 ≡ false)
counts = (refl, refl, refl, refl, refl)

-- "locals and slots 2,048 each", by how many numbers are lent: of 4,096 items 2,048 are locals, one more, one less
pub item_limit : (items : List ℕ) → (length items ≡ item_width * 4096 → bad_count [] items 2048 ≡ false) × (length items ≡ item_width * 4096 → bad_count [] items 2049 ≡ true) × (length items ≡ item_width * 4096 → bad_count [] items 2047 ≡ true)
item_limit items = (λ e. rw e refl, λ e. rw e refl, λ e. rw e refl)

-- "the area list 65,536"
pub area_limit : (areas : List ℕ) → (length areas ≡ range_width * 65536 → bad_areas areas ≡ false) × (length areas ≡ range_width * 65537 → bad_areas areas ≡ true)
area_limit areas = (λ e. rw e refl, λ e. rw e refl)

pub areas_whole : bad_areas (0 ∷ 1 ∷ 2 ∷ []) ≡ true
areas_whole = refl

-- number 10: "an item naming no cell": the last cell and one past it; "or more cells than items": as many and one more, which "give the item count"
pub named : (plan_verdict cells items 2 ≡ Fine) × (plan_verdict cells (1 ∷ 0 ∷ 0 ∷ 0 ∷ 2 ∷ 0 ∷ 0 ∷ 0 ∷ []) 2 ≡ Bad Want 1) × (plan_verdict cells (0 ∷ 0 ∷ 0 ∷ 0 ∷ 0 ∷ 0 ∷ 0 ∷ 0 ∷ []) 2 ≡ Fine) × (plan_verdict cells (0 ∷ 0 ∷ 0 ∷ 0 ∷ []) 1 ≡ Bad Want 1)
unfolding first in_order scan plan_verdict
named = (refl, refl, refl, refl)

-- number 10: "a part outside the area list": to its last range, one past it; an absent area's part is not read
pub parts : (outside 4 1 3 1 ≡ false) × (outside 4 1 3 2 ≡ true) × (outside 4 2 4 1 ≡ true) × (outside 4 0 9 9 ≡ false)
    × (shared_verdict cells items areas 2 ≡ Fine) × (shared_verdict cells items (0 ∷ 1 ∷ 3 ∷ 4 ∷ 6 ∷ 7 ∷ []) 2 ≡ Bad Want 2) × (shared_verdict cells items (0 ∷ []) 2 ≡ Bad Count 0)
unfolding first in_order scan shared_verdict
parts = (refl, refl, refl, refl, refl, refl, refl)

-- number 7: an answer list of the slots, and one short of them, before 10
pub crowds : (crowded_verdict cells items 1 2 ≡ Fine) × (crowded_verdict cells items 1 1 ≡ Bad Space 0) × (crowded_verdict cells (9 ∷ 0 ∷ 0 ∷ 0 ∷ []) 0 0 ≡ Bad Space 0) × (crowded_verdict cells (9 ∷ 0 ∷ 0 ∷ 0 ∷ []) 0 1 ≡ Bad Want 0)
unfolding first in_order scan plan_verdict crowded_verdict
crowds = (refl, refl, refl, refl)
