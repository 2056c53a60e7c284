-- The entry `carried`: the registers that carry one local's address.
use Rattle.std.specs.Prelude.{ℕ, min, ◌≡◌, cond, List, [], length, replicate, ltb, Ok, Err, Some, None, Option as Maybe, Result}
use Rattle.std.proofs.Math.Option.{Option, some, none}
use Rattle.refusals.specs.Verdicts.{number_of, Verdict, Found}
use Rattle.refusals.specs.Outcomes.{Outcome, given, refused, unless, after, found}
use Rattle.words.specs.Widths.{inst_count, local_count}
use Rattle.carrying.specs.Carried.{Code, carried}
use Rattle.reach.specs.Prepared.{code_of}
use Rattle.carry_checks.specs.Checks.{carry_checks, carry_verdict, carry_space}
use Rattle.refusals.specs.declared.Refused.{Refused}

-- the most there can be: each is numbered, and the def of an instruction
abbrev pub most_of : ℕ → List ℕ → ℕ
most_of v insts = min v (inst_count insts)

-- "a local number past the end" is absent
abbrev pub count_of : Code → ℕ → ℕ → Option ℕ
count_of C locals l = cond (ltb l locals) (some (length (carried C l))) none

abbrev pub registers_of : Code → ℕ → ℕ → List ℕ
registers_of C locals l = cond (ltb l locals) (carried C l) []

-- the checks of `carried` in their order: numbers 1, 2, 4, 5 and 7
abbrev pub carried_checks : ℕ → ℕ → List ℕ → List ℕ → List ℕ → List ℕ → List ℕ → List ℕ → List ℕ → List ℕ → List ℕ → List Verdict
carried_checks points v blocks insts operands crossings locals addresses ends answer work =
    carry_checks points v blocks insts operands crossings locals addresses ends (length answer) (most_of v insts) (length work)

abbrev pub verdict_of : ℕ → ℕ → List ℕ → List ℕ → List ℕ → List ℕ → List ℕ → List ℕ → List ℕ → ℕ → ℕ → Verdict
verdict_of points v blocks insts operands crossings locals addresses ends lent work =
    carry_verdict points v blocks insts operands crossings locals addresses ends lent (most_of v insts) work

-- the answer of `carried`, its list and the work space afterwards
pub record CarriedTo (points v : ℕ) (blocks insts operands crossings locals addresses ends : List ℕ) (l : ℕ) (answer₀ work₀ : List ℕ) (r : Found ℕ) (answer work : List ℕ) : Type 0 where
  pub outcome : found r ≡ unless (verdict_of points v blocks insts operands crossings locals addresses ends (length answer₀) (length work₀))
      (count_of (code_of v insts operands crossings addresses ends) (local_count locals) l)
  pub list : answer ≡ after (unless (verdict_of points v blocks insts operands crossings locals addresses ends (length answer₀) (length work₀))
      (registers_of (code_of v insts operands crossings addresses ends) (local_count locals) l)) (λ rs. rs) answer₀
  pub space : work ≡ after (unless (verdict_of points v blocks insts operands crossings locals addresses ends (length answer₀) (length work₀))
      (carry_space v blocks insts operands crossings locals addresses ends)) (λ n. replicate n 0) work₀
