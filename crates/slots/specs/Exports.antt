-- What the exported functions promise: what the entry of the same name promises, its answer in one number.
use Rattle.std.specs.Prelude.{ℕ, ◌+◌, ◌*◌, ◌≡◌, List}
use Rattle.refusals.specs.Outcomes.{Outcome, answered, unless, after, found}
use Rattle.ranges.specs.declared.Range.{Range}
use Rattle.ranges.specs.Forms.{starts, ends}
use Rattle.range_entries.specs.Entries.{size}
use Rattle.flow.specs.Entry.{Answered as Flowed}
use Rattle.spread.specs.Entry.{Answered as Spread, Settled}
use Rattle.components.specs.Entry.{Answered as Components}
use Rattle.local_kinds.specs.Entry.{ReachTo}
use Rattle.carried_registers.specs.Carried.{CarriedTo}
use Rattle.moved_ranges.specs.Moved.{MovedTo}
use Rattle.spilled_registers.specs.Spilled.{SpilledTo}
use Rattle.area_entries.specs.Entry.{LocalAreas}
use Rattle.job_space.specs.Rows.{Rows}
use Rattle.item_areas.specs.Entry.{ItemAreas}
use Rattle.planning.specs.Answer.{TextPrinted}
use Rattle.fitting.specs.Queries.{Slots}
use Rattle.queries.specs.Shares.{counted}
use Rattle.capping.specs.Cap.{cap_verdict, cap_rows}
use Rattle.apart.specs.Apart.{room_rows, lone_rows}
use Rattle.codes.specs.Codes.{count_code, option_code, verdict_code, Coded}
use Rattle.part_codes.specs.Codes.{over_of}
use Rattle.refusals.specs.Verdicts.{Verdict}

-- ---- over a graph

abbrev pub FlowCoded : ℕ → List ℕ → List ℕ → ℕ → List ℕ → ℕ → List ℕ → List ℕ → ℕ → List ℕ → List ℕ → Type 0
FlowCoded over blocks edges points touched words out₀ work₀ r out work =
    Coded verdict_code (λ a. Flowed (over_of over) blocks edges points touched words out₀ work₀ a out work) r

abbrev pub SpreadCoded : List ℕ → List ℕ → ℕ → List ℕ → List ℕ → ℕ → List ℕ → List ℕ → ℕ → List ℕ → List ℕ → Type 0
SpreadCoded blocks edges points leaves passes words out₀ work₀ r out work =
    Coded verdict_code (λ a. Spread blocks edges points leaves passes words out₀ work₀ a out work) r

abbrev pub ComponentsCoded : List ℕ → List ℕ → ℕ → List ℕ → List ℕ → ℕ → List ℕ → List ℕ → Type 0
ComponentsCoded blocks edges points which₀ work₀ r which work = Coded (λ a. count_code (answered a)) (λ a. Components blocks edges points which₀ work₀ a which work) r

abbrev pub SettlingCoded : List ℕ → List ℕ → ℕ → List ℕ → List ℕ → ℕ → List ℕ → List ℕ → Type 0
SettlingCoded blocks edges points order₀ work₀ r order work = Coded verdict_code (λ a. Settled blocks edges points order₀ work₀ a order work) r

-- ---- carrying, moves and slots

abbrev pub ReachCoded : ℕ → ℕ → List ℕ → List ℕ → List ℕ → List ℕ → List ℕ → List ℕ → List ℕ → List ℕ → List ℕ → ℕ → List ℕ → List ℕ → Type 0
ReachCoded points v blocks insts operands crossings locals addresses ends kinds₀ work₀ r kinds work =
    Coded (λ a. count_code (answered a)) (λ a. ReachTo points v blocks insts operands crossings locals addresses ends kinds₀ work₀ a kinds work) r

abbrev pub CarriedCoded : ℕ → ℕ → List ℕ → List ℕ → List ℕ → List ℕ → List ℕ → List ℕ → List ℕ → ℕ → List ℕ → List ℕ → ℕ → List ℕ → List ℕ → Type 0
CarriedCoded points v blocks insts operands crossings locals addresses ends local registers₀ work₀ r registers work =
    Coded (λ a. option_code (found a)) (λ a. CarriedTo points v blocks insts operands crossings locals addresses ends local registers₀ work₀ a registers work) r

abbrev pub MovedCoded : ℕ → ℕ → List ℕ → List ℕ → List ℕ → List ℕ → ℕ → List ℕ → List ℕ → ℕ → List ℕ → List ℕ → Type 0
MovedCoded points v blocks insts operands moves slot out₀ work₀ r out work =
    Coded (λ a. count_code (answered a)) (λ a. MovedTo points v blocks insts operands moves slot out₀ work₀ a out work) r

abbrev pub SpilledCoded : ℕ → ℕ → List ℕ → List ℕ → List ℕ → ℕ → List ℕ → List ℕ → Type 0
SpilledCoded v slots assigned registers₀ work₀ r registers work =
    Coded (λ a. count_code (answered a)) (λ a. SpilledTo v slots assigned registers₀ work₀ a registers work) r

-- ---- areas

abbrev pub LocalAreasCoded : List ℕ → List ℕ → ℕ → List ℕ → List ℕ → List ℕ → List ℕ → List ℕ → List ℕ → ℕ → List ℕ → List ℕ → List ℕ → Type 0
LocalAreasCoded blocks edges points kinds touches ends areas₀ items₀ work₀ r areas items work =
    Coded (λ a. count_code (answered a)) (λ a. LocalAreas blocks edges points kinds touches ends areas₀ items₀ work₀ a areas items work) r

abbrev pub ItemAreasCoded : Rows → List ℕ → List ℕ → List ℕ → ℕ → List ℕ → List ℕ → List ℕ → Type 0
ItemAreasCoded R areas₀ items₀ work₀ r areas items work = Coded (λ a. count_code (answered a)) (λ a. ItemAreas R areas₀ items₀ work₀ a areas items work) r

-- ---- text

abbrev pub TextCoded : List ℕ → List ℕ → ℕ → List ℕ → Type 0
TextCoded text out₀ r out = Coded (λ a. count_code (answered a)) (λ a. TextPrinted text out₀ a out) r

-- ---- fitting, queries and ranges

-- W of fitting alone, of so many wants and ranges: 8 × (wants + length of the area list)
abbrev pub fit_space : ℕ → ℕ → ℕ
fit_space wants ranges = 8 * (wants + ranges)

-- ranges in two columns
pub record ListCoded (o : Outcome (List Range)) (os oe : List ℕ) (r : ℕ) (os' oe' : List ℕ) : Type 0 where
  pub answer : r ≡ count_code (size o)
  pub in_starts : os' ≡ after o starts os
  pub in_ends : oe' ≡ after o ends oe

-- `crowded`
pub record CrowdCoded (o : Outcome (List ℕ)) (out : List ℕ) (r : ℕ) (out' : List ℕ) : Type 0 where
  pub answer : r ≡ count_code (counted o)
  pub in_out : out' ≡ after o (λ l. l) out

-- `cap`
pub record CapCoded (cells : List ℕ) (count most : ℕ) (r : ℕ) (cells' : List ℕ) : Type 0 where
  pub answer : r ≡ verdict_code (cap_verdict cells count)
  pub in_cells : cells' ≡ after (unless (cap_verdict cells count) (cap_rows cells count most)) (λ l. l) cells

-- `apart`
pub record ApartCoded (v : Verdict) (o : Outcome Slots) (cells items : List ℕ) (r : ℕ) (cells' items' : List ℕ) : Type 0 where
  pub answer : r ≡ verdict_code v
  pub in_cells : cells' ≡ after o room_rows cells
  pub in_items : items' ≡ after o lone_rows items
