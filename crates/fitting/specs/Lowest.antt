-- Document 01, "Wants, cells, plan": where each item of a plan stands, by the cells and the budget as they were when it was put in.
use Rattle.std.specs.Prelude.{ℕ, ◌-◌, ◌<◌, ◌≡◌, ◌⊎◌, false, List, ◌∷◌, ◌++◌, length}
use Rattle.std.proofs.Math.Option.{Option, some, none}
use Rattle.ranges.specs.declared.Range.{Range}
use Rattle.fitting.specs.Wants.{Want, want_at}
use Rattle.fitting.specs.Plan.{Cell, takes, Lowest, plan_of}

-- no cell that is met before the budget left is spent takes the item
abbrev pub NoneFits : List Cell → ℕ → List Range → Type 0
NoneFits cs left a = (m : ℕ) → m < length cs → m < left → takes cs a m ≡ false

-- cell n of an item with this area, put to the cells cs with so much of the budget left: "the first cell that has an area and doesn't clash; else a new cell",
-- "an item without area opens one"
abbrev pub PutAt : List Cell → ℕ → Option (List Range) → ℕ → Type 0
PutAt cs left none n = n ≡ length cs
PutAt cs left (some a) n = Lowest cs left a n ⊎ (NoneFits cs left a × (n ≡ length cs))

-- every item i of the order, put in after the earlier ones: it stands in the lowest fitting cell of those that there were, within what was left of the budget, or in a new one
pub record PutLowest (ws : List Want) (budget : ℕ) (order : List ℕ) (cell : ℕ → ℕ) : Type 0 where
  pub stands : (earlier : List ℕ) (i : ℕ) (later : List ℕ) → order ≡ earlier ++ (i ∷ later)
      → PutAt (plan_of ws budget earlier).cells (budget - (plan_of ws budget earlier).probes) (want_at ws i).area (cell i)
