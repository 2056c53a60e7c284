-- What the entry `reach` answers.
use Rattle.std.specs.Prelude.{ℕ, ◌≡◌, List, length, replicate}
use Rattle.refusals.specs.Outcomes.{unless, after, answered}
use Rattle.words.specs.Rows.{tabulate}
use Rattle.words.specs.Widths.{local_count}
use Rattle.carrying.specs.Carried.{Code, kind_of}
use Rattle.reach.specs.Prepared.{code_of}
use Rattle.carry_checks.specs.Checks.{carry_checks, carry_verdict, carry_space}
use Rattle.refusals.specs.Verdicts.{Verdict, Answer}
pub use Rattle.kind_numbers.specs.Numbers.{kind_number}

-- the kinds of the first n locals
abbrev pub kinds_of : Code → ℕ → List ℕ
kinds_of C n = tabulate n (λ l. kind_number (kind_of C l))

-- the checks of `reach` in their order: numbers 1, 2, 4, 5 and 7, the last of them for an answer list shorter than the locals or work space under W
abbrev pub reach_checks : ℕ → ℕ → List ℕ → List ℕ → List ℕ → List ℕ → List ℕ → List ℕ → List ℕ → List ℕ → List ℕ → List Verdict
reach_checks points v blocks insts operands crossings locals addresses ends answer work =
    carry_checks points v blocks insts operands crossings locals addresses ends (length answer) (local_count locals) (length work)

-- the answer of `reach`, its list and the work space afterwards
pub record ReachTo (points v : ℕ) (blocks insts operands crossings locals addresses ends answer₀ work₀ : List ℕ) (r : Answer) (answer work : List ℕ) : Type 0 where
  pub outcome : answered r ≡ unless (carry_verdict points v blocks insts operands crossings locals addresses ends (length answer₀) (local_count locals) (length work₀)) (local_count locals)
  pub list : answer ≡ after (unless (carry_verdict points v blocks insts operands crossings locals addresses ends (length answer₀) (local_count locals) (length work₀)) (local_count locals))
      (kinds_of (code_of v insts operands crossings addresses ends)) answer₀
  pub space : work ≡ after (unless (carry_verdict points v blocks insts operands crossings locals addresses ends (length answer₀) (local_count locals) (length work₀))
      (carry_space v blocks insts operands crossings locals addresses ends)) (λ n. replicate n 0) work₀
