-- Document 01, the whole job: its answer and what the answer lists hold, given a verdict and a plan.
use Rattle.std.specs.Prelude.{ℕ, ◌≡◌, List, ◌∷◌, ℤ, Result}
use Rattle.std.proofs.Math.Option.{Option}
use Rattle.refusals.specs.Verdicts.{number_of, Verdict}
use Rattle.refusals.specs.Outcomes.{Outcome, given, refused, unless, after, answered}
use Rattle.words.specs.Rows.{tabulate, flat}
use Rattle.ranges.specs.declared.Range.{Range}
use Rattle.areas.specs.Job.{ranges_of, areas_verdict}
use Rattle.fitting.specs.Plan.{Plan}
use Rattle.fitting.specs.Layout.{laid_verdict}
use Rattle.wants.specs.Entry.{tally_of, cell_rows, cell_offsets}
use Rattle.area_tables.specs.Tables.{area_rows}
use Rattle.item_lists.specs.Lists.{item_row}
use Rattle.refusals.specs.declared.Refused.{Refused}
use Rattle.wants.specs.declared.Tally.{Tally}

-- items 4 numbers: "its cell", then "a present flag and a part of the area list"
abbrev pub item_rows : ℕ → (ℕ → Option (List Range)) → Plan → List ℕ
item_rows n A p = flat (tabulate n (λ i. p.cell i ∷ item_row (ranges_of (tabulate i A)) (A i)))

-- what is refused once the areas are measured: 9, then 12 and 13 of the plan's cells
abbrev pub answer_verdict : ℕ → (ℕ → Option (List Range)) → ℕ → Plan → Verdict
answer_verdict n A room p = laid_verdict (areas_verdict n A room) p

-- the answer and the answer lists, given a verdict and a plan
pub record AnsweredBy (v : Verdict) (n : ℕ) (A : ℕ → Option (List Range)) (p : Plan) (cells items areas : List ℕ) (offsets : List ℤ) (r : Result Tally Refused)
    (cells' items' areas' : List ℕ) (offsets' : List ℤ) : Type 0 where
  pub answer : answered r ≡ tally_of (unless v p)
  pub in_cells : cells' ≡ after (unless v p) cell_rows cells
  pub in_items : items' ≡ after (unless v p) (item_rows n A) items
  pub in_areas : areas' ≡ after (unless v p) (λ _. area_rows n A) areas
  pub in_offsets : offsets' ≡ after (unless v p) cell_offsets offsets
