-- What `shared` and `crowded` answer.
use Rattle.std.specs.Prelude.{ℕ, ◌≡◌, cond, List, [], length, take, drop, ltb, eqb, Ok, Err, Some, None, Option as Maybe, Result}
use Rattle.std.proofs.Math.Option.{Option, some, none}
use Rattle.refusals.specs.Verdicts.{number_of, Answer}
use Rattle.refusals.specs.Outcomes.{Outcome, given, refused, unless, after, answered, found}
use Rattle.words.specs.Widths.{item_cell, item_present, item_first, item_ranges}
use Rattle.ranges.specs.declared.Range.{Range}
use Rattle.fitting.specs.Queries.{slots_of, crowd, crowded}
use Rattle.query_checks.specs.Checks.{shared_verdict, crowded_verdict}
use Rattle.refusals.specs.declared.Refused.{Refused}
use Rattle.queries.specs.declared.Stretch.{Stretch}

-- ---- `shared`

-- the part that an item's row names: "a present flag and a part of the area list"
abbrev pub part_named : List ℕ → ℕ → Option Stretch
part_named items i = cond (eqb (item_present items i) 0) none (some (record { first = item_first items i; count = item_ranges items i }))

-- "`shared` gives a local's area only if its cell has two or more members": the numbers of its own row
abbrev pub shared_part : List ℕ → List ℕ → ℕ → ℕ → Option Stretch
shared_part cells items locals i = cond (ltb i locals) (cond (crowd (slots_of locals cells items []) (item_cell items i)) (part_named items i) none) none

abbrev pub shared_of : List ℕ → List ℕ → List ℕ → ℕ → ℕ → Outcome (Option Stretch)
shared_of cells items areas locals i = unless (shared_verdict cells items areas locals) (shared_part cells items locals i)

-- the ranges of a part of an area list
abbrev pub ranges_of : List Range → Option Stretch → Option (List Range)
ranges_of areas none = none
ranges_of areas (some s) = some (take s.count (drop s.first areas))

abbrev pub area_of : List Range → Outcome (Option Stretch) → Outcome (Option (List Range))
area_of areas (given s) = given (ranges_of areas s)
area_of areas (refused n i) = refused n i

-- ---- `crowded`

abbrev pub crowded_of : List ℕ → List ℕ → ℕ → ℕ → Outcome (List ℕ)
crowded_of cells items locals room = unless (crowded_verdict cells items locals room) (crowded (slots_of locals cells items []))

abbrev pub counted : Outcome (List ℕ) → Outcome ℕ
counted (given l) = given (length l)
counted (refused n i) = refused n i

pub record CrowdedBy (o : Outcome (List ℕ)) (out : List ℕ) (r : Answer) (out' : List ℕ) : Type 0 where
  pub answer : answered r ≡ counted o
  pub in_out : out' ≡ after o (λ l. l) out
