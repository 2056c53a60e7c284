-- Document 01, "Wants, cells, plan": the lowest fitting cell within the budget, and the plan.
use Rattle.std.specs.Prelude.{ℕ, zero, suc, ◌+◌, ◌-◌, ◌<◌, min, max, ◌≡◌, Bool, true, false, cond, not, List, [], ◌∷◌, ◌++◌, length, get_or, set, eqb}
use Rattle.std.proofs.Math.Option.{Option, some, none}
use Rattle.ranges.specs.declared.Range.{Range}
use Rattle.ranges.specs.Points.{listed}
use Rattle.ranges.specs.Merged.{union, clashes}
use Rattle.fitting.specs.Wants.{Want, want_at}

-- "a cell's size and alignment are its members' largest, its area the `union` of theirs"
pub record Cell : Type 0 where
  pub size : ℕ
  pub align : ℕ
  pub area : Option (List Range)

abbrev pub cell_at : List Cell → ℕ → Cell
cell_at cs n = get_or cs n (record { size = 0; align = 0; area = none })

-- a cell that an item with area a may join: it "has an area and doesn't clash"
abbrev pub joinable : Option (List Range) → List Range → Bool
joinable none a = false
joinable (some held) a = not (clashes held a)

abbrev pub takes : List Cell → List Range → ℕ → Bool
takes cs a n = joinable (cell_at cs n).area a

-- the lowest fitting cell: no lower one takes the item, and it is met before what remains of the budget is spent
pub record Lowest (cs : List Cell) (budget : ℕ) (a : List Range) (n : ℕ) : Type 0 where
  pub there : n < length cs
  pub met : n < budget
  pub fits : takes cs a n ≡ true
  pub least : (m : ℕ) → m < n → takes cs a m ≡ false

-- the same by a search: "probes cells from 0 while budget remains"
abbrev pub next : Option ℕ → Option ℕ
next none = none
next (some n) = some (suc n)

unfoldable pub lowest : List Cell → ℕ → List Range → Option ℕ
lowest [] budget a = none
lowest (c ∷ cs) zero a = none
lowest (c ∷ cs) (suc budget) a = cond (joinable c.area a) (some 0) (next (lowest cs budget a))

-- "each cell met spends one, also one without area"
abbrev pub spent : List Cell → ℕ → Option ℕ → ℕ
spent cs budget (some n) = suc n
spent cs budget none = min (length cs) budget

-- the cells, each item's cell, and the probes spent
pub record Plan : Type 0 where
  pub cells : List Cell
  pub cell : ℕ → ℕ
  pub probes : ℕ

abbrev pub nothing : Plan
nothing = record { cells = []; cell = λ i. 0; probes = 0 }

-- the item's cell is n
abbrev pub assign : ℕ → ℕ → (ℕ → ℕ) → ℕ → ℕ
assign i n cell j = cond (eqb j i) n (cell j)

-- "else a new cell opens"
abbrev pub opened : Want → ℕ → ℕ → Plan → Plan
opened w i probes p =
    record { cells = p.cells ++ (record { size = w.size; align = w.align; area = w.area } ∷ []); cell = assign i (length p.cells) p.cell; probes = p.probes + probes }

-- the item joins cell n
abbrev pub widened : Cell → Want → List Range → Cell
widened c w a = record { size = max c.size w.size; align = max c.align w.align; area = some (union (listed c.area) a) }

abbrev pub entered : Want → ℕ → List Range → ℕ → ℕ → Plan → Plan
entered w i a n probes p =
    record { cells = set p.cells n (widened (cell_at p.cells n) w a); cell = assign i n p.cell; probes = p.probes + probes }

abbrev pub settled : Want → ℕ → List Range → ℕ → Option ℕ → Plan → Plan
settled w i a left none p = opened w i (spent p.cells left none) p
settled w i a left (some n) p = entered w i a n (spent p.cells left (some n)) p

-- "an item without area opens one and spends nothing"
abbrev pub placed_by : ℕ → Want → Option (List Range) → ℕ → Plan → Plan
placed_by budget w none i p = opened w i 0 p
placed_by budget w (some a) i p = settled w i a (budget - p.probes) (lowest p.cells (budget - p.probes) a) p

abbrev pub put : List Want → ℕ → ℕ → Plan → Plan
put ws budget i p = placed_by budget (want_at ws i) (want_at ws i).area i p

-- `fit`, of the items in an order
unfoldable pub fit : List Want → ℕ → List ℕ → Plan → Plan
fit ws budget [] p = p
fit ws budget (i ∷ order) p = fit ws budget order (put ws budget i p)

abbrev pub plan_of : List Want → ℕ → List ℕ → Plan
plan_of ws budget order = fit ws budget order nothing
