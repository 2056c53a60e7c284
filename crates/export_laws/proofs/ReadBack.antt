-- What a caller reads in a code, by the promise of each exported function: an answer below 2 to the 32, or the refusal's number and its whole index.
use Prim.Native.Nat.{ℕ}
use native.Mathlib.Omega.{arith}
use mathlib.Core.Path.{◌≡◌, refl, sym, ap, subst, ◌∙◌}
use mathlib.Core.Logic.{inl, inr}
use mathlib.Core.Option.{Option, some, none}
use mathlib.Core.List.{List, []}
use lib.IntN.{ℤ}
use lib.ListN.{length}
use lib.Dec.{ltb}
use Rattle.refusals.specs.declared.Refusal.TheVariants.{Space}
use Rattle.refusals.specs.Verdicts.{in_order, Verdict}
use Rattle.refusals.specs.Outcomes.{given, unless}
use Rattle.words.specs.Rows.{tabulate}
use Rattle.words.specs.Widths.{local_count}
use Rattle.ranges.specs.declared.Range.{Range}
use Rattle.ranges.specs.Merged.{merged, joined, union, clashes}
use Rattle.ranges.specs.Forms.{columns}
use Rattle.range_checks.specs.Verdicts.{merged_verdict, joined_verdict, union_verdict, clashes_verdict}
use Rattle.range_entries.specs.Entries.{size, merged_of, joined_of, union_of, clashes_of}
use Rattle.fitting.specs.Queries.{slots_of, local, slot, saved, crowded}
use Rattle.fitting.specs.Layout.{laid_verdict}
use Rattle.wants.specs.Entry.{tally_of, plan_for}
use Rattle.query_checks.specs.Checks.{plan_verdict, told_verdict, crowded_verdict}
use Rattle.queries.specs.Entry.{local_of, slot_of, saved_by}
use Rattle.queries.specs.Shares.{shared_part, crowded_of, counted}
use Rattle.query_codes.specs.Codes.{told_of, part_code, PartTold}
use Rattle.capping.specs.Cap.{cap_verdict}
use Rattle.apart.specs.Apart.{apart_verdict, apart_of}
use Rattle.flow.specs.Entry.{verdict_of as flowVerdict}
use Rattle.spread.specs.Entry.{verdict_of as spreadVerdict}
use Rattle.components.specs.Entry.{verdict_of as orderVerdict}
use Rattle.carry_checks.specs.Checks.{carry_verdict}
use Rattle.reach.specs.Prepared.{code_of as codeFor}
use Rattle.carried_registers.specs.Carried.{most_of, count_of}
use Rattle.moved_ranges.specs.Moved.{moved_verdict, moved_of}
use Rattle.spilled_registers.specs.Spilled.{spilled_verdict}
use Rattle.soundness.specs.Demand.{job_plan}
use Rattle.job_checks.specs.Job.{job_of}
use Rattle.item_areas.specs.Entry.{item_checks}
use Rattle.item_areas.specs.Inner.{total}
use Rattle.text_plan.specs.Printed.{room_checks, counted as bytes_of}
use Rattle.planning.specs.Program.{program_text}
use Rattle.planning.proofs.TextLaws.{program_short}
use Rattle.codes.specs.Codes.{code_of, count_code, option_code, truth_code, Small, SmallOrAbsent, Read}
use Rattle.codes.proofs.IndexLaws.{check_fits, read_back, read_verdict_lem, read_count, read_truth, read_option}
use Rattle.want_codes.specs.Plans.{coded_verdict as fitVerdict, PlanCoded}
use Rattle.job_codes.specs.Job.{coded_verdict, JobCoded}
use Rattle.answer_bounds.proofs.Steps.{no_more, order_fit, next_fits}
use Rattle.answer_bounds.proofs.GraphBounds.{components_fits, few_blocks, flowed_fits, spread_fits}
use Rattle.answer_bounds.proofs.AreaBounds.{local_areas_fits, local_areas_few}
use Rattle.areas.specs.Job.{ranges_of}
use Rattle.area_measure.specs.Locals.{area_for}
use Rattle.lent_areas.specs.Areas.{graph_for}
use Rattle.area_entries.specs.Entry.{verdict_of as localVerdict}
use Rattle.answer_bounds.proofs.CarryBounds.{carry_fits, few_locals, few_registers, carried_few, moved_fits, moved_few, spilled_fits, spilled_few}
use Rattle.answer_bounds.proofs.JobBounds.{job_fits, item_areas_fits, item_areas_few}
use Rattle.answer_bounds.proofs.PlanBounds.{wants_fit, plan_fits, told_fits, crowded_fits, crowded_few, cap_fits, apart_fits}
use Rattle.answer_bounds.proofs.QueryBounds.{local_small, slot_small, saved_small}
use Rattle.answer_bounds.proofs.RangeBounds.{merged_fits, merged_count, joined_fits, joined_count, union_fits, union_count, clashes_fits}
use Rattle.slots.specs.Exports.{FlowCoded, SpreadCoded, ComponentsCoded, SettlingCoded, ReachCoded, CarriedCoded, MovedCoded, SpilledCoded, LocalAreasCoded, ItemAreasCoded, TextCoded, ListCoded, CrowdCoded, CapCoded, ApartCoded}
use Rattle.job_space.specs.Rows.{Rows}
use Rattle.fitting.specs.declared.Terms.{Terms}
use Rattle.queries.specs.declared.Stretch.{Stretch}

-- ---- the whole job and fitting alone

module _ {R : Rows} {t : Terms} {cells items areas counts work cells' items' areas' counts' work' : List ℕ} {offsets offsets' : List ℤ} {r : ℕ} where
  pub share_read : JobCoded R t cells items areas offsets counts work r cells' items' areas' offsets' counts' work'
      → Read Small (coded_verdict R t (length cells) (length items) (length areas) (length offsets) (length counts) (length work)) r
  share_read E =
      read_back _ (job_fits R t (length cells) (length items) (length areas) (length offsets) (length counts) (length work))
      (λ e. let z : r ≡ 0 = E.answer ∙ ap (λ (w : Verdict). code_of (tally_of (unless w (job_plan (job_of R) t.budget)))) e in omega arith)
      (λ k i e. E.answer ∙ ap (λ (w : Verdict). code_of (tally_of (unless w (job_plan (job_of R) t.budget)))) e)

module _ (wants areas : List ℕ) (locals budget : ℕ) {cells items counts work cells' items' counts' work' : List ℕ} {offsets offsets' : List ℤ} {r : ℕ} where
  pub fit_wants_read : PlanCoded wants areas (fitVerdict wants areas locals budget (length cells) (length items) (length offsets) (length counts) (length work)) (plan_for wants areas budget)
      cells items offsets counts work r cells' items' offsets' counts' work'
      → Read Small (laid_verdict (fitVerdict wants areas locals budget (length cells) (length items) (length offsets) (length counts) (length work)) (plan_for wants areas budget)) r
  fit_wants_read E =
      read_back _ (wants_fit wants areas locals budget (length cells) (length items) (length offsets) (length counts) (length work))
      (λ e. let z : r ≡ 0 = E.answer ∙ ap (λ (w : Verdict). code_of (tally_of (unless w (plan_for wants areas budget)))) e in omega arith)
      (λ k i e. E.answer ∙ ap (λ (w : Verdict). code_of (tally_of (unless w (plan_for wants areas budget)))) e)

-- ---- queries

module _ (cells items : List ℕ) (locals i : ℕ) {r : ℕ} where
  pub local_read : r ≡ option_code (local_of cells items locals i) → Read SmallOrAbsent (plan_verdict cells items locals) r
  local_read q =
      read_option (plan_verdict cells items locals) (plan_fits cells items locals) (local (slots_of locals cells items []) i) q
      (λ c e f. let s = local_small cells items locals i c (ap (λ (w : Verdict). unless w (local (slots_of locals cells items []) i)) e ∙ ap given f) in omega arith)

  pub slot_read : r ≡ option_code (slot_of cells items locals i) → Read SmallOrAbsent (plan_verdict cells items locals) r
  slot_read q =
      read_option (plan_verdict cells items locals) (plan_fits cells items locals) (slot (slots_of locals cells items []) i) q
      (λ c e f. let s = slot_small cells items locals i c (ap (λ (w : Verdict). unless w (slot (slots_of locals cells items []) i)) e ∙ ap given f) in omega arith)

  pub saved_read : r ≡ count_code (saved_by cells items locals) → Read Small (plan_verdict cells items locals) r
  saved_read q =
      read_count (plan_verdict cells items locals) (plan_fits cells items locals) (saved (slots_of locals cells items [])) q
      (λ e. let s = saved_small cells items locals (saved (slots_of locals cells items [])) (ap (λ (w : Verdict). unless w (saved (slots_of locals cells items []))) e) in omega arith)

module _ (cells items : List ℕ) (locals : ℕ) {out out' : List ℕ} {r : ℕ} where
  pub crowded_read : CrowdCoded (crowded_of cells items locals (length out)) out r out' → Read Small (crowded_verdict cells items locals (length out)) r
  crowded_read E =
      read_back _ (crowded_fits cells items locals (length out))
      (λ e. let z : r ≡ length (crowded (slots_of locals cells items [])) = E.answer ∙ ap (λ (w : Verdict). count_code (counted (unless w (crowded (slots_of locals cells items []))))) e in
      omega (arith, z, crowded_few cells items locals (length out) e))
      (λ k i e. E.answer ∙ ap (λ (w : Verdict). count_code (counted (unless w (crowded (slots_of locals cells items []))))) e)

part_small : (o : Option Stretch) → SmallOrAbsent (part_code (given o))
part_small (some s) = inl (omega arith)
part_small none = inr refl

module _ (cells items areas : List ℕ) (locals i : ℕ) {part part' : List ℕ} {r : ℕ} where
  pub shared_read : PartTold (told_of cells items areas locals i (length part)) part r part' → Read SmallOrAbsent (told_verdict cells items areas locals (length part)) r
  shared_read E =
      read_back _ (told_fits cells items locals areas (length part))
      (λ e. subst SmallOrAbsent (sym (E.answer ∙ ap (λ (w : Verdict). part_code (unless w (shared_part cells items locals i))) e)) (part_small (shared_part cells items locals i)))
      (λ k n e. E.answer ∙ ap (λ (w : Verdict). part_code (unless w (shared_part cells items locals i))) e)

module _ (locals slots : List ℕ) {cells items cells' items' : List ℕ} {r : ℕ} where
  pub apart_read : ApartCoded (apart_verdict locals slots (length cells) (length items)) (apart_of locals slots (length cells) (length items)) cells items r cells' items'
      → Read Small (apart_verdict locals slots (length cells) (length items)) r
  apart_read E = read_verdict_lem (apart_verdict locals slots (length cells) (length items)) (apart_fits locals slots (length cells) (length items)) E.answer

pub cap_read : {cells cells' : List ℕ} {count most r : ℕ} → CapCoded cells count most r cells' → Read Small (cap_verdict cells count) r
cap_read {cells = cells} {count = count} E = read_verdict_lem (cap_verdict cells count) (cap_fits cells count) E.answer

-- ---- ranges

module _ (ss es : List ℕ) {os oe os' oe' : List ℕ} {r : ℕ} where
  pub merged_read : ListCoded (merged_of ss es (length os) (length oe)) os oe r os' oe' → Read Small (merged_verdict ss es (length os) (length oe)) r
  merged_read E =
      read_back _ (merged_fits ss es (length os) (length oe))
      (λ e. let z : r ≡ length (merged (columns ss es)) = E.answer ∙ ap (λ (w : Verdict). count_code (size (unless w (merged (columns ss es))))) e in
      omega (arith, z, merged_count ss es (length os) (length oe) e))
      (λ k i e. E.answer ∙ ap (λ (w : Verdict). count_code (size (unless w (merged (columns ss es))))) e)

  pub joined_read : (n : Range) → ListCoded (joined_of ss es n (length os) (length oe)) os oe r os' oe' → Read Small (joined_verdict ss es n (length os) (length oe)) r
  joined_read n E =
      read_back _ (joined_fits ss es n (length os) (length oe))
      (λ e. let z : r ≡ length (joined (columns ss es) n) = E.answer ∙ ap (λ (w : Verdict). count_code (size (unless w (joined (columns ss es) n)))) e in
      omega (arith, z, joined_count ss es n (length os) (length oe) e))
      (λ k i e. E.answer ∙ ap (λ (w : Verdict). count_code (size (unless w (joined (columns ss es) n)))) e)

  module _ (ts fs : List ℕ) where
    pub union_read : ListCoded (union_of ss es ts fs (length os) (length oe)) os oe r os' oe' → Read Small (union_verdict ss es ts fs (length os) (length oe)) r
    union_read E =
        read_back _ (union_fits ss es ts fs (length os) (length oe))
        (λ e. let z : r ≡ length (union (columns ss es) (columns ts fs)) = E.answer ∙ ap (λ (w : Verdict). count_code (size (unless w (union (columns ss es) (columns ts fs))))) e in
        omega (arith, z, union_count ss es ts fs (length os) (length oe) e))
        (λ k i e. E.answer ∙ ap (λ (w : Verdict). count_code (size (unless w (union (columns ss es) (columns ts fs))))) e)

pub clashes_read : (ss es ts fs : List ℕ) {r : ℕ} → r ≡ truth_code (clashes_of ss es ts fs) → Read Small (clashes_verdict ss es ts fs) r
clashes_read ss es ts fs q = read_truth (clashes_verdict ss es ts fs) (clashes_fits ss es ts fs) (clashes (columns ss es) (columns ts fs)) q

-- ---- over a graph

module _ {blocks edges : List ℕ} {points r : ℕ} where
  pub components_read : {which work which' work' : List ℕ} → ComponentsCoded blocks edges points which work r which' work' → Read Small (orderVerdict blocks edges points (length which) (length work)) r
  components_read {which} {work} E =
      read_back _ (components_fits blocks edges points (length which) (length work))
      (λ e. let n = E.holds.answered e in
      let z : r ≡ n.count = E.answer ∙ ap count_code n.outcome in
      omega (arith, z, n.few, few_blocks blocks edges points (length which) (length work) e))
      (λ k i e. E.answer ∙ ap count_code (E.holds.turned k i e).outcome)

  pub settling_read : {order work order' work' : List ℕ} → SettlingCoded blocks edges points order work r order' work' → Read Small (orderVerdict blocks edges points (length order) (length work)) r
  settling_read {order} {work} E =
      read_back _ (components_fits blocks edges points (length order) (length work))
      (λ e. let z : r ≡ 0 = E.answer ∙ ap code_of (E.holds.answered e).outcome in omega arith)
      (λ k i e. E.answer ∙ ap code_of (E.holds.turned_back k i e).outcome)

  pub flowed_read : (over : ℕ) {words : ℕ} {touched out work out' work' : List ℕ} → FlowCoded over blocks edges points touched words out work r out' work'
      → Read Small (flowVerdict blocks edges points (length touched) words (length out) (length work)) r
  flowed_read over {words} {touched} {out} {work} E =
      read_back _ (flowed_fits blocks edges points (length touched) words (length out) (length work))
      (λ e. let z : r ≡ 0 = E.answer ∙ ap code_of (E.holds.answered e).outcome in omega arith)
      (λ k i e. E.answer ∙ ap code_of (E.holds.turned_back k i e).outcome)

  pub spread_read : {words : ℕ} {leaves passes out work out' work' : List ℕ} → SpreadCoded blocks edges points leaves passes words out work r out' work'
      → Read Small (spreadVerdict blocks edges points (length leaves) (length passes) words (length out) (length work)) r
  spread_read {words} {leaves} {passes} {out} {work} E =
      read_back _ (spread_fits blocks edges points (length leaves) (length passes) words (length out) (length work))
      (λ e. let z : r ≡ 0 = E.answer ∙ ap code_of (E.holds.answered e).outcome in omega arith)
      (λ k i e. E.answer ∙ ap code_of (E.holds.turned_back k i e).outcome)

-- ---- carrying, moves and slots

module _ {points v r : ℕ} {blocks insts operands crossings locals addresses ends : List ℕ} where
  pub reach_read : {kinds work kinds' work' : List ℕ} → ReachCoded points v blocks insts operands crossings locals addresses ends kinds work r kinds' work' → Read Small (carry_verdict points v blocks insts operands crossings locals addresses ends (length kinds) (local_count locals) (length work)) r
  reach_read {kinds} {work} E =
      read_count _ (carry_fits points v blocks insts operands crossings locals addresses ends (length kinds) (local_count locals) (length work)) (local_count locals) (E.answer ∙ ap count_code E.holds.outcome)
      (λ e. few_locals points v blocks insts operands crossings locals addresses ends (length kinds) (local_count locals) (length work) e)

  pub carried_read : {l : ℕ} {registers work registers' work' : List ℕ} → CarriedCoded points v blocks insts operands crossings locals addresses ends l registers work r registers' work'
      → Read SmallOrAbsent (carry_verdict points v blocks insts operands crossings locals addresses ends (length registers) (most_of v insts) (length work)) r
  carried_read {l} {registers} {work} E =
      read_option _ (carry_fits points v blocks insts operands crossings locals addresses ends (length registers) (most_of v insts) (length work)) (count_of (codeFor v insts operands crossings addresses ends) (local_count locals) l)
      (E.answer ∙ ap option_code E.holds.outcome)
      (λ c e f. carried_few (codeFor v insts operands crossings addresses ends) (local_count locals) l c (few_registers points v blocks insts operands crossings locals addresses ends (length registers) (most_of v insts) (length work) e) f)

pub moved_read : {points v r : ℕ} {blocks insts operands moves : List ℕ} {slot : ℕ} {out work out' work' : List ℕ} → MovedCoded points v blocks insts operands moves slot out work r out' work'
    → Read Small (moved_verdict points v blocks insts operands moves (length out) (length work)) r
moved_read {points} {v} {r} {blocks} {insts} {operands} {moves} {slot} {out} {work} E =
    read_count _ (moved_fits points v blocks insts operands moves (length out) (length work)) (length (moved_of points blocks insts operands moves slot)) (E.answer ∙ ap count_code E.holds.outcome)
    (λ e. moved_few points v blocks insts operands moves slot (length out) (length work) e)

pub spilled_read : {v slots r : ℕ} {assigned registers work registers' work' : List ℕ} → SpilledCoded v slots assigned registers work r registers' work'
    → Read Small (spilled_verdict v slots assigned (length registers) (length work)) r
spilled_read {v} {slots} {r} {assigned} {registers} {work} E =
    read_count _ (spilled_fits v slots assigned (length registers) (length work)) slots (E.answer ∙ ap count_code E.holds.outcome)
    (λ e. spilled_few v slots assigned (length registers) (length work) e)

-- ---- areas

pub local_areas_read : {points r : ℕ} {blocks edges kinds touches ends areas items work areas' items' work' : List ℕ}
    → LocalAreasCoded blocks edges points kinds touches ends areas items work r areas' items' work'
    → Read Small (localVerdict blocks edges points kinds touches ends (length areas) (length items) (length work)) r
local_areas_read {points} {r} {blocks} {edges} {kinds} {touches} {ends} {areas} {items} {work} E =
    read_count _ (local_areas_fits blocks edges points kinds touches ends (length areas) (length items) (length work)) (ranges_of (tabulate (length kinds) (area_for (graph_for blocks edges) kinds touches ends)))
    (E.answer ∙ ap count_code E.holds.lists.answer) (λ e. local_areas_few blocks edges points kinds touches ends (length areas) (length items) (length work) e)

pub item_areas_read : {R : Rows} {r : ℕ} {areas items work areas' items' work' : List ℕ}
    → ItemAreasCoded R areas items work r areas' items' work' → Read Small (in_order (item_checks R (length areas) (length items) (length work))) r
item_areas_read {R} {r} {areas} {items} {work} E =
    read_count _ (item_areas_fits R (length areas) (length items) (length work)) (total (job_of R)) (E.answer ∙ ap count_code E.holds.lists.answer)
    (λ e. item_areas_few R (length areas) (length items) (length work) e)

-- ---- text

pub print_text_read : (text : List ℕ) {out out' : List ℕ} {r : ℕ} → TextCoded text out r out' → Read Small (in_order (room_checks (program_text text) (length out))) r
print_text_read text {out} {out'} {r} E =
    read_back _ (order_fit (next_fits (check_fits Space (ltb (length out) (length (program_text text)))) (λ _. no_more)))
    (λ e. let z : r ≡ length (program_text text) = E.answer ∙ ap count_code (E.holds.answer ∙ ap (λ (w : Verdict). bytes_of (unless w (program_text text))) e) in
    omega (arith, z, program_short text))
    (λ k i e. E.answer ∙ ap count_code (E.holds.answer ∙ ap (λ (w : Verdict). bytes_of (unless w (program_text text))) e))
