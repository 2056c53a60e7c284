-- How a plan is told in one number and its counts, and what fitting alone promises so.
use Rattle.std.specs.Prelude.{ℕ, ◌≡◌, Bool, ◌||◌, List, [], ◌∷◌, ltb, ℤ, replicate}
use Rattle.refusals.specs.declared.Refusal.TheVariants.{Count, Space}
use Rattle.refusals.specs.Verdicts.{in_order, check, Verdict}
use Rattle.refusals.specs.Outcomes.{unless, after}
use Rattle.fitting.specs.Plan.{Plan}
use Rattle.fitting.specs.Layout.{laid_verdict}
use Rattle.wants.specs.Entry.{tally_of, cell_rows, item_rows, cell_offsets}
use Rattle.want_checks.specs.Checks.{bad_count, bad_space, wants_verdict, space_of}
use Rattle.codes.specs.Codes.{code_of}
use Rattle.wants.specs.declared.Tally.{Tally}

-- a plan's counts: cells, probes, depth
abbrev pub counts_of : Tally → List ℕ
counts_of t = t.cells ∷ t.probes ∷ t.depth ∷ []

-- `counts` is an answer list of three numbers: under them is one more cause of number 7
abbrev pub few_counts : ℕ → Bool
few_counts counts = ltb counts 3

-- numbers 1, 7 and 10; the lengths are those of the answer lists, the counts and the work space
abbrev pub coded_verdict : List ℕ → List ℕ → ℕ → ℕ → ℕ → ℕ → ℕ → ℕ → ℕ → Verdict
coded_verdict wants areas locals budget cells items offsets counts work =
    in_order (check Count (bad_count wants areas locals budget cells items) ∷ check Space (bad_space wants areas cells items offsets work || few_counts counts)
    ∷ wants_verdict areas wants ∷ [])

-- fitting alone: the plan p, unless refused by v before it is made or by its layout
pub record PlanCoded (wants areas : List ℕ) (v : Verdict) (p : Plan) (cells items : List ℕ) (offsets : List ℤ) (counts work : List ℕ) (r : ℕ)
    (cells' items' : List ℕ) (offsets' : List ℤ) (counts' work' : List ℕ) : Type 0 where
  pub answer : r ≡ code_of (tally_of (unless (laid_verdict v p) p))
  pub in_cells : cells' ≡ after (unless (laid_verdict v p) p) cell_rows cells
  pub in_items : items' ≡ after (unless (laid_verdict v p) p) (item_rows wants) items
  pub in_offsets : offsets' ≡ after (unless (laid_verdict v p) p) cell_offsets offsets
  pub in_counts : counts' ≡ after (tally_of (unless (laid_verdict v p) p)) counts_of counts
  pub in_work : work' ≡ after (unless v (space_of wants areas)) (λ n. replicate n 0) work
