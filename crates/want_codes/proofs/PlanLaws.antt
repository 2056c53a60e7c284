-- A plan's counts are told, or the refusal is answered.
use Prim.Native.Nat.{ℕ, ◌≤◌, ◌<◌}
use mathlib.Core.Path.{◌≡◌, refl, sym, ap, subst, ◌∙◌}
use mathlib.Core.Bool.{Bool, true, false, ◌||◌}
use mathlib.Core.List.{List, [], ◌∷◌}
use lib.IntN.{ℤ}
use lib.ListN.{length, drop, replicate}
use borrow.Author.Tests.{lt-ltb, le-ltb}
use Rattle.refusals.specs.declared.Refusal.{Refusal}
use Rattle.refusals.specs.declared.Refusal.TheVariants.{Count, Space}
use Rattle.refusals.specs.Verdicts.{number_of, in_order, check, Bad, Verdict}
use Rattle.refusals.specs.Outcomes.{Outcome, given, refused, unless, after, answered}
use Rattle.refusals.proofs.Laws.{first_bad, three_first, three_second}
use Rattle.words.proofs.Bools.{or_right}
use Rattle.fitting.specs.Plan.{Plan}
use Rattle.fitting.specs.Layout.{rooms_in, layout_verdict}
use Rattle.want_checks.specs.Checks.{bad_count, bad_space, wants_verdict, space_of, verdict}
use Rattle.wants.specs.Entry.{tally_of, plan_for, cell_rows, item_rows, cell_offsets, FittedAlone}
use Rattle.codes.specs.Codes.{refusal_code, code_of}
use Rattle.want_codes.specs.Plans.{counts_of, few_counts, coded_verdict, PlanCoded}
use Rattle.want_codes.specs.Inner.{PlanTold}
use Rattle.refusals.specs.declared.Refused.{Refused}
use Rattle.wants.specs.declared.Tally.{Tally}
use Rattle.std.specs.Prelude.{Result}

module _ {counts : List ℕ} {o : Outcome Tally} where
  pub plan_told : {counts' : List ℕ} {c p d : ℕ} → o ≡ given (record { cells = c; probes = p; depth = d }) → counts' ≡ c ∷ p ∷ d ∷ drop 3 counts → PlanTold counts o 0 counts'
  plan_told e h =
      record {
        answer = ap code_of (sym e);
        in_counts = h ∙ ap (λ (x : Outcome Tally). after x counts_of counts) (sym e);
      }

  pub plan_refused : {n k i : ℕ} → o ≡ refused k i → n ≡ refusal_code k i → PlanTold counts o n counts
  plan_refused e h =
      record {
        answer = h ∙ ap code_of (sym e);
        in_counts = ap (λ (x : Outcome Tally). after x counts_of counts) (sym e);
      }

or_none : (a b : Bool) → b ≡ false → a || b ≡ a
or_none true b e = refl
or_none false b e = e

-- fitting alone, by how many counts there is room for
module _ (wants areas : List ℕ) (locals budget : ℕ) (cells items : List ℕ) (offsets : List ℤ) (counts work : List ℕ) where
  abbrev verdict_for : Verdict
  verdict_for = coded_verdict wants areas locals budget (length cells) (length items) (length offsets) (length counts) (length work)

  abbrev plan_now : Plan
  plan_now = plan_for wants areas budget

  -- room for three: the entry's own verdict
  enough : 3 ≤ length counts → verdict wants areas locals budget (length cells) (length items) (length offsets) (length work) ≡ verdict_for
  unfolding verdict
  enough h = ap (λ (b : Bool). in_order (check Count (bad_count wants areas locals budget (length cells) (length items)) ∷ check Space b ∷ wants_verdict areas wants ∷ []))
      (sym (or_none (bad_space wants areas (length cells) (length items) (length offsets) (length work)) (few_counts (length counts)) (le-ltb (length counts) 3 h)))

  pub plan_coded : {cells' items' counts' work' : List ℕ} {offsets' : List ℤ} {f : (Result Tally Refused)} {r : ℕ} → 3 ≤ length counts
      → FittedAlone wants areas (verdict wants areas locals budget (length cells) (length items) (length offsets) (length work)) plan_now cells items offsets work f cells' items' offsets' work'
      → PlanTold counts (answered f) r counts' → PlanCoded wants areas verdict_for plan_now cells items offsets counts work r cells' items' offsets' counts' work'
  plan_coded {cells'} {items'} {counts'} {work'} {offsets'} {f} {r} h a t =
      subst (λ (v : Verdict). PlanCoded wants areas v plan_now cells items offsets counts work r cells' items' offsets' counts' work') (enough h)
      (record {
        answer = t.answer ∙ ap code_of a.lists.answer;
        in_cells = a.lists.in_cells;
        in_items = a.lists.in_items;
        in_offsets = a.lists.in_offsets;
        in_counts = t.in_counts ∙ ap (λ (x : Outcome Tally). after x counts_of counts) a.lists.answer;
        in_work = a.in_work;
      })

  -- too little room: number 1, else number 7
  turned : {k : Refusal} {r : ℕ} → verdict_for ≡ Bad k 0 → r ≡ refusal_code (number_of k) 0 → PlanCoded wants areas verdict_for plan_now cells items offsets counts work r cells items offsets counts work
  turned {k} {r} e q =
      let f = sym (first_bad verdict_for (layout_verdict (rooms_in plan_now)) k 0 e) in
      record {
        answer = q ∙ ap (λ (v : Verdict). code_of (tally_of (unless v plan_now))) f;
        in_cells = ap (λ (v : Verdict). after (unless v plan_now) cell_rows cells) f;
        in_items = ap (λ (v : Verdict). after (unless v plan_now) (item_rows wants) items) f;
        in_offsets = ap (λ (v : Verdict). after (unless v plan_now) cell_offsets offsets) f;
        in_counts = ap (λ (v : Verdict). after (tally_of (unless v plan_now)) counts_of counts) f;
        in_work = ap (λ (v : Verdict). after (unless v (space_of wants areas)) (λ n. replicate n 0) work) (sym e);
      }

  abbrev short_now : Bool
  short_now = bad_space wants areas (length cells) (length items) (length offsets) (length work)

  module _ {r : ℕ} (few : length counts < 3) where
    pub few_count : bad_count wants areas locals budget (length cells) (length items) ≡ true → r ≡ refusal_code 1 0 → PlanCoded wants areas verdict_for plan_now cells items offsets counts work r cells items offsets counts work
    few_count b q = turned (sym (three_first Count Space (bad_count wants areas locals budget (length cells) (length items)) (short_now || few_counts (length counts)) (wants_verdict areas wants) b)) q

    pub few_space : bad_count wants areas locals budget (length cells) (length items) ≡ false → r ≡ refusal_code 7 0 → PlanCoded wants areas verdict_for plan_now cells items offsets counts work r cells items offsets counts work
    few_space b q =
        turned (sym (three_second Count Space (bad_count wants areas locals budget (length cells) (length items)) (short_now || few_counts (length counts)) (wants_verdict areas wants) b
        (or_right short_now (few_counts (length counts)) (lt-ltb (length counts) 3 few)))) q
