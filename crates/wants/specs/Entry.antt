-- Document 01, "Fitting alone, over given wants": what the entry answers.
use Rattle.std.specs.Prelude.{ℕ, ◌≡◌, List, [], ◌∷◌, map, ℤ, length, replicate, Result}
use Rattle.refusals.specs.Verdicts.{number_of, Verdict}
use Rattle.refusals.specs.Outcomes.{Outcome, given, refused, unless, after, answered}
use Rattle.words.specs.Rows.{records, tabulate, flat}
use Rattle.words.specs.Widths.{want_width, want_count, want_present, want_first, want_ranges}
use Rattle.ranges.specs.declared.Range.{Range}
use Rattle.ranges.specs.Forms.{areas_of}
use Rattle.fitting.specs.Wants.{Want, order_of}
use Rattle.fitting.specs.Plan.{Cell, Plan, plan_of}
use Rattle.fitting.specs.Queries.{part_of}
use Rattle.fitting.specs.Layout.{rooms_in, depth_of, offsets_of, laid_verdict}
use Rattle.want_checks.specs.Checks.{space_of}
use Rattle.fit_tables.specs.WantTables.{item_row}
use Rattle.refusals.specs.declared.Refused.{Refused}
use Rattle.wants.specs.declared.Tally.{Tally}

-- wants 5 numbers: size, align, present, first, count
abbrev pub wants_of : List Range → List ℕ → List Want
wants_of areas s = records want_width (λ f. record { size = f 0; align = f 1; area = part_of areas (f 2) (f 3) (f 4) }) s

-- the plan of the wants
abbrev pub plan_for : List ℕ → List ℕ → ℕ → Plan
plan_for wants areas budget = plan_of (wants_of (areas_of areas) wants) budget (order_of (wants_of (areas_of areas) wants))

abbrev pub tallied : Plan → Tally
tallied p = record { cells = length p.cells; probes = p.probes; depth = depth_of (rooms_in p) }

abbrev pub tally_of : Outcome Plan → Outcome Tally
tally_of (given p) = given (tallied p)
tally_of (refused n i) = refused n i

-- cells 2 numbers: size, align
abbrev pub cell_rows : Plan → List ℕ
cell_rows p = flat (map (λ (c : Cell). c.size ∷ c.align ∷ []) p.cells)

-- a row of each item
abbrev pub item_rows : List ℕ → Plan → List ℕ
item_rows wants p = flat (tabulate (want_count wants) (λ i. item_row (p.cell i) (want_present wants i) (want_first wants i) (want_ranges wants i)))

-- the offset of each cell
abbrev pub cell_offsets : Plan → List ℤ
cell_offsets p = offsets_of (rooms_in p)

-- the answer and the answer lists, given a verdict and a plan
pub record PlanListed (wants : List ℕ) (v : Verdict) (p : Plan) (cells items : List ℕ) (offsets : List ℤ) (r : Result Tally Refused) (cells' items' : List ℕ) (offsets' : List ℤ) : Type 0 where
  pub answer : answered r ≡ tally_of (unless v p)
  pub in_cells : cells' ≡ after (unless v p) cell_rows cells
  pub in_items : items' ≡ after (unless v p) (item_rows wants) items
  pub in_offsets : offsets' ≡ after (unless v p) cell_offsets offsets

-- fitting alone: the plan p, unless refused by v before it is made or by its layout; the work space is unchanged after the first, else its first W words are zero
pub record FittedAlone (wants areas : List ℕ) (v : Verdict) (p : Plan) (cells items : List ℕ) (offsets : List ℤ) (work : List ℕ) (r : Result Tally Refused)
    (cells' items' : List ℕ) (offsets' : List ℤ) (work' : List ℕ) : Type 0 where
  pub lists : PlanListed wants (laid_verdict v p) p cells items offsets r cells' items' offsets'
  pub in_work : work' ≡ after (unless v (space_of wants areas)) (λ n. replicate n 0) work
