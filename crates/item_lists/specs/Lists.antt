-- Document 01, "Areas of items": what the answer lists of areas hold, of a job's items and of locals lent by themselves, given a verdict.
use Rattle.std.specs.Prelude.{ℕ, ◌≡◌, List, [], ◌∷◌, length}
use Rattle.std.proofs.Math.Option.{Option, some, none}
use Rattle.refusals.specs.Outcomes.{unless, after, answered}
use Rattle.words.specs.Rows.{tabulate, flat}
use Rattle.ranges.specs.declared.Range.{Range}
use Rattle.areas.specs.Job.{ranges_of}
use Rattle.area_tables.specs.Tables.{area_rows}
use Rattle.refusals.specs.Verdicts.{Verdict, Answer}

-- items 3 numbers: "a present flag and a part of the area list", its first range and how many it has; without an area 0, 0, 0
abbrev pub item_row : ℕ → Option (List Range) → List ℕ
item_row first none = 0 ∷ 0 ∷ 0 ∷ []
item_row first (some rs) = 1 ∷ first ∷ length rs ∷ []

abbrev pub item_rows : ℕ → (ℕ → Option (List Range)) → List ℕ
item_rows n A = flat (tabulate n (λ i. item_row (ranges_of (tabulate i A)) (A i)))

-- the answer and the answer lists, given a verdict
pub record AnsweredBy (v : Verdict) (n : ℕ) (A : ℕ → Option (List Range)) (areas items : List ℕ) (r : Answer) (areas' items' : List ℕ) : Type 0 where
  pub answer : answered r ≡ unless v (ranges_of (tabulate n A))
  pub in_areas : areas' ≡ after (unless v (ranges_of (tabulate n A))) (λ _. area_rows n A) areas
  pub in_items : items' ≡ after (unless v (ranges_of (tabulate n A))) (λ _. item_rows n A) items
