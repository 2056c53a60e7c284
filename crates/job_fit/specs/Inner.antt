-- What the functions here promise each other. No public promise names these.
use Rattle.std.specs.Prelude.{ℕ, ◌+◌, ◌-◌, ◌*◌, ◌^◌, ◌≤◌, ◌<◌, ◌≡◌, cond, List, length, ltb}
use Rattle.std.proofs.Math.Option.{Option, some}
use Rattle.words.specs.Rows.{tabulate}
use Rattle.words.specs.Widths.{local_count, slot_count}
use Rattle.words.specs.Inner.{local_size, local_align, slot_size}
use Rattle.ranges.specs.declared.Range.{Range}
use Rattle.ranges.specs.Points.{Apart}
use Rattle.graph.specs.Inner.Work.{Within}
use Rattle.fitting.specs.Wants.{Want, order_of}
use Rattle.fitting.specs.Plan.{Plan, plan_of}
use Rattle.fit_tables.specs.declared.Counts.{Counts}
use Rattle.fit_tables.specs.declared.Tables.{Tables}
use Rattle.fit_tables.specs.Inner.{Made}
use Rattle.area_measure.specs.Inner.Locals.{word_of, ListedBy}
use Rattle.area_tables.specs.Inner.{listing}

-- The wants of a job's items by their rows and areas, their table in the work space, and the plan that fitting leaves there.

-- items: locals, then slots
abbrev pub count_of : List ℕ → List ℕ → ℕ
count_of locals slots = local_count locals + slot_count slots

-- "size and alignment = width" of a slot
abbrev pub size_at : List ℕ → List ℕ → ℕ → ℕ
size_at locals slots i = cond (ltb i (local_count locals)) (local_size locals i) (slot_size slots (i - local_count locals))

abbrev pub align_at : List ℕ → List ℕ → ℕ → ℕ
align_at locals slots i = cond (ltb i (local_count locals)) (local_align locals i) (slot_size slots (i - local_count locals))

-- the words of the wants' table
abbrev pub local_word : List ℕ → ℕ → ℕ
local_word locals i = local_size locals i * 2 ^ 32 + local_align locals i

abbrev pub slot_word : List ℕ → ℕ → ℕ
slot_word slots i = slot_size slots i * 2 ^ 32 + slot_size slots i

abbrev pub want_word : List ℕ → List ℕ → ℕ → ℕ
want_word locals slots i = size_at locals slots i * 2 ^ 32 + align_at locals slots i

-- the wants of items with such areas, and their plan
abbrev pub want_for : List ℕ → List ℕ → (ℕ → Option (List Range)) → ℕ → Want
want_for locals slots A i = record { size = size_at locals slots i; align = align_at locals slots i; area = A i }

abbrev pub wants_for : List ℕ → List ℕ → (ℕ → Option (List Range)) → List Want
wants_for locals slots A = tabulate (count_of locals slots) (want_for locals slots A)

abbrev pub plan_for : List ℕ → List ℕ → (ℕ → Option (List Range)) → ℕ → Plan
plan_for locals slots A budget = plan_of (wants_for locals slots A) budget (order_of (wants_for locals slots A))

-- areas that fit their room stand in the work space, each in order and apart, and there is room for the tables behind them
pub record Ready (count room end : ℕ) (w : List ℕ) : Type 0 where
  pub total : ℕ
  pub area : ℕ → Option (List Range)
  pub listed : ListedBy word_of (listing room room) area count total w
  pub fits : total ≤ room
  pub apart : (i : ℕ) (rs : List Range) → area i ≡ some rs → Apart rs
  pub few : count ≤ 4096
  pub short : room ≤ 65536
  pub space : room + 8 * count ≤ end
  pub inside : end ≤ length w
  pub small : end < 2 ^ 32

-- where the tables stand: the areas from 0 on, the tables behind their room
abbrev pub tables_for : ℕ → ℕ → ℕ → Tables
tables_for count room end = record { at = 0; items = room; n = count; end = end }

-- the plan of the items' wants, whatever the areas are that stand there; these stand there still, and nothing from `end` on has changed
pub record FittedFor (locals slots : List ℕ) (budget room end : ℕ) (w₀ w : List ℕ) (r : Counts) : Type 0 where
  pub kept : Within 0 end w₀ w
  pub few : r.cells ≤ count_of locals slots
  pub plan : (A : ℕ → Option (List Range)) (total : ℕ) → ListedBy word_of (listing room room) A (count_of locals slots) total w₀ → total ≤ room
      → Made (plan_for locals slots A budget) (count_of locals slots) room w r
  pub listed : (A : ℕ → Option (List Range)) (total : ℕ) → ListedBy word_of (listing room room) A (count_of locals slots) total w₀ → total ≤ room
      → ListedBy word_of (listing room room) A (count_of locals slots) total w
