-- The entry `spilled`: what it refuses (numbers 1, 6 and 7) and what it answers.
use Rattle.std.specs.Prelude.{ℕ, ◌+◌, ◌*◌, ◌≡◌, ◌||◌, List, [], ◌∷◌, length, replicate, ltb}
use Rattle.std.proofs.Math.Option.{Option, some, none}
use Rattle.refusals.specs.declared.Refusal.TheVariants.{Space}
use Rattle.refusals.specs.Verdicts.{first, in_order, check, Verdict, Answer}
use Rattle.refusals.specs.Outcomes.{unless, after, answered}
use Rattle.words.specs.Rows.{tabulate}
use Rattle.words.specs.Widths.{assigned_width, assigned_count}
use Rattle.words.specs.Regions.{row_words}
use Rattle.insts.specs.Counts.{rows_verdict, most_verdict}
use Rattle.areas.specs.Slots.{assigned_of, spilled, assigned_verdict}

-- number 1: "V 65,535; slots 2,048; assignments 65,536"
unfoldable pub spilled_counts : ℕ → ℕ → List ℕ → Verdict
spilled_counts v slots assigned = first (most_verdict 65535 v) (first (most_verdict 2048 slots) (rows_verdict assigned_width 65536 (length assigned)))

-- W = 8 × (assignments + ⌈V/64⌉): "other entries count what they are lent"; the slots are a number, no record
abbrev pub spilled_words : ℕ → ℕ → ℕ
spilled_words v assigned = 8 * (assigned + row_words v)

abbrev pub spilled_space : ℕ → List ℕ → ℕ
spilled_space v assigned = spilled_words v (assigned_count assigned)

-- number 7: an answer list shorter than its answer, or work space under W
abbrev pub spilled_room : ℕ → ℕ → ℕ → ℕ → Verdict
spilled_room lent slots work words = check Space (ltb lent slots || ltb work words)

-- the checks of `spilled` in their order: numbers 1, 6 and 7
abbrev pub spilled_checks : ℕ → ℕ → List ℕ → ℕ → ℕ → List Verdict
spilled_checks v slots assigned lent work =
    spilled_counts v slots assigned ∷ assigned_verdict v (assigned_of assigned) ∷ spilled_room lent slots work (spilled_space v assigned) ∷ []

unfoldable pub spilled_verdict : ℕ → ℕ → List ℕ → ℕ → ℕ → Verdict
spilled_verdict v slots assigned lent work = in_order (spilled_checks v slots assigned lent work)

-- a register, or the number for none
abbrev pub register_or : ℕ → Option ℕ → ℕ
register_or d none = d
register_or d (some r) = r

-- the answer: a number for each slot, V where no register is assigned to it
abbrev pub registers : ℕ → List ℕ → ℕ → List ℕ
registers v assigned slots = tabulate slots (λ s. register_or v (spilled (assigned_of assigned) s))

-- the answer, its list and the work space afterwards
pub record SpilledTo (v slots : ℕ) (assigned answer₀ work₀ : List ℕ) (r : Answer) (answer work : List ℕ) : Type 0 where
  pub outcome : answered r ≡ unless (spilled_verdict v slots assigned (length answer₀) (length work₀)) slots
  pub list : answer ≡ after (unless (spilled_verdict v slots assigned (length answer₀) (length work₀)) slots) (registers v assigned) answer₀
  pub space : work ≡ after (unless (spilled_verdict v slots assigned (length answer₀) (length work₀)) (spilled_space v assigned)) (λ n. replicate n 0) work₀
