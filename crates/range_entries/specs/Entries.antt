-- What the range entries answer: an outcome each, a refusal's number and index or the answer.
use Rattle.std.specs.Prelude.{ℕ, ◌≡◌, Bool, List, length}
use Rattle.refusals.specs.Verdicts.{number_of, Answer}
use Rattle.refusals.specs.Outcomes.{Outcome, given, refused, unless, after, answered}
use Rattle.ranges.specs.declared.Range.{Range}
use Rattle.ranges.specs.Merged.{merged, joined, union, clashes}
use Rattle.ranges.specs.Forms.{columns, starts, ends}
use Rattle.range_checks.specs.Verdicts.{merged_verdict, joined_verdict, union_verdict, clashes_verdict}
use Rattle.refusals.specs.declared.Refused.{Refused}

-- the outcomes of the entries
abbrev pub merged_of : List ℕ → List ℕ → ℕ → ℕ → Outcome (List Range)
merged_of ss es n m = unless (merged_verdict ss es n m) (merged (columns ss es))

abbrev pub joined_of : List ℕ → List ℕ → Range → ℕ → ℕ → Outcome (List Range)
joined_of ss es r n m = unless (joined_verdict ss es r n m) (joined (columns ss es) r)

abbrev pub union_of : List ℕ → List ℕ → List ℕ → List ℕ → ℕ → ℕ → Outcome (List Range)
union_of ss es ts fs n m = unless (union_verdict ss es ts fs n m) (union (columns ss es) (columns ts fs))

abbrev pub clashes_of : List ℕ → List ℕ → List ℕ → List ℕ → Outcome Bool
clashes_of ss es ts fs = unless (clashes_verdict ss es ts fs) (clashes (columns ss es) (columns ts fs))

-- how many ranges a list outcome has
abbrev pub size : Outcome (List Range) → Outcome ℕ
size (given rs) = given (length rs)
size (refused n i) = refused n i

-- the answer is the outcome's count, and the two columns hold its ranges, then what they held
pub record Listed (o : Outcome (List Range)) (os oe : List ℕ) (r : Answer) (os' oe' : List ℕ) : Type 0 where
  pub answer : answered r ≡ size o
  pub in_starts : os' ≡ after o starts os
  pub in_ends : oe' ≡ after o ends oe
