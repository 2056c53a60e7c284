-- How the exported functions answer in one number: a refusal's number above, its index in the low 32 bits; an answer is below, 0 where it only says that all is done.
use Rattle.std.specs.Prelude.{ℕ, ◌+◌, ◌*◌, ◌/◌, ◌%◌, ◌^◌, ◌<◌, ◌≡◌, ◌⊎◌, Bool, true, false}
use Rattle.std.proofs.Math.Option.{Option, some, none}
use Rattle.refusals.specs.Verdicts.{number_of, Bad, Fine, Verdict}
use Rattle.refusals.specs.Outcomes.{Outcome, given, refused, numbered}
use Rattle.refusals.specs.declared.Refusal.{Refusal}

-- a refusal
abbrev pub refusal_code : ℕ → ℕ → ℕ
refusal_code number index = number * 2 ^ 32 + index % 2 ^ 32

-- "an index past the end is answered as absent": the largest 64-bit number, which is no refusal's and no answer
abbrev pub absent_code : ℕ
absent_code = 18446744073709551615

-- done, or a refusal
abbrev pub code_of : {A : Type 0} → Outcome A → ℕ
code_of (given a) = 0
code_of (refused k i) = refusal_code k i

abbrev pub verdict_code : Verdict → ℕ
verdict_code v = code_of (numbered v)

-- a number, or a refusal
abbrev pub count_code : Outcome ℕ → ℕ
count_code (given n) = n
count_code (refused k i) = refusal_code k i

-- a number, or none, or a refusal
abbrev pub option_code : Outcome (Option ℕ) → ℕ
option_code (given (some n)) = n
option_code (given none) = absent_code
option_code (refused k i) = refusal_code k i

-- yes or no, or a refusal
abbrev pub truth_of : Bool → ℕ
truth_of true = 1
truth_of false = 0

abbrev pub truth_code : Outcome Bool → ℕ
truth_code (given b) = truth_of b
truth_code (refused k i) = refusal_code k i

-- what an entry promises, with its answer in one number
pub record Coded {A : Type 0} (code : A → ℕ) (Promised : A → Type 0) (r : ℕ) : Type 0 where
  pub told : A
  pub answer : r ≡ code told
  pub holds : Promised told

-- an answer as the exported functions give it: below every refusal's code; of some also that there is none
abbrev pub Small : ℕ → Type 0
Small r = r < 2 ^ 32

abbrev pub SmallOrAbsent : ℕ → Type 0
SmallOrAbsent r = (r < 2 ^ 32) ⊎ (r ≡ absent_code)

-- what a caller reads in the code of an entry with this verdict: an answer, or the refusal's number above and its index, whole, in the low 32 bits
pub record Read (Answer : ℕ → Type 0) (v : Verdict) (r : ℕ) : Type 0 where
  pub answer : v ≡ Fine → Answer r
  pub number : (k : Refusal) (i : ℕ) → v ≡ Bad k i → r / 2 ^ 32 ≡ number_of k
  pub index : (k : Refusal) (i : ℕ) → v ≡ Bad k i → r % 2 ^ 32 ≡ i
