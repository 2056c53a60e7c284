-- Document 01, "Areas of items", of touches and ends lent by themselves: what the entry answers and refuses.
use Rattle.std.specs.Prelude.{ℕ, ◌/◌, ◌≡◌, List, [], ◌∷◌, ◌++◌, length, replicate}
use Rattle.refusals.specs.declared.Refusal.{Refusal}
use Rattle.refusals.specs.declared.Refusal.TheVariants.{List as ListWord}
use Rattle.refusals.specs.Verdicts.{in_order, Verdict, Answer}
use Rattle.refusals.specs.Outcomes.{unless, after}
use Rattle.area_measure.specs.Locals.{area_for}
use Rattle.item_lists.specs.Lists.{AnsweredBy}
use Rattle.area_layout.specs.Layout.{space_for}
use Rattle.area_checks.specs.Checks.{sizes_of, lent_verdict, lent_checks, lent_give}
use Rattle.lent_areas.specs.Areas.{graph_for}
use Rattle.areas.specs.Job.{areas_verdict}
use Rattle.words.specs.Widths.{range_width}

-- the checks in the entry's order, "lowest number wins": 1, 2, 3, 4, 6 and 7 of what is lent, then 9 of what is found; and the refusal that each gives
abbrev pub local_checks : List ℕ → List ℕ → ℕ → List ℕ → List ℕ → List ℕ → ℕ → ℕ → ℕ → List Verdict
local_checks blocks edges points kinds touches ends areas items work =
    lent_checks blocks edges points kinds touches (length ends) areas items work
    ++ (areas_verdict (length kinds) (area_for (graph_for blocks edges) kinds touches ends) (areas / range_width) ∷ [])

abbrev pub local_give : List Refusal
local_give = lent_give ++ (ListWord ∷ [])

abbrev pub verdict_of : List ℕ → List ℕ → ℕ → List ℕ → List ℕ → List ℕ → ℕ → ℕ → ℕ → Verdict
verdict_of blocks edges points kinds touches ends areas items work = in_order (local_checks blocks edges points kinds touches ends areas items work)

-- the areas of locals: the work space is unchanged after a refusal that comes before measuring, else its first W words are zero
pub record LocalAreas (blocks edges : List ℕ) (points : ℕ) (kinds touches ends areas items work : List ℕ) (r : Answer) (areas' items' work' : List ℕ) : Type 0 where
  pub lists : AnsweredBy (verdict_of blocks edges points kinds touches ends (length areas) (length items) (length work)) (length kinds)
      (area_for (graph_for blocks edges) kinds touches ends) areas items r areas' items'
  pub in_work : work' ≡ after (unless (lent_verdict blocks edges points kinds touches (length ends) (length areas) (length items) (length work))
      (space_for (sizes_of blocks edges (length kinds) (length touches) (length ends) (length areas)))) (λ n. replicate n 0) work
