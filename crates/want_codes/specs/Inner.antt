-- What the functions here promise each other. No public promise names these.
use Rattle.std.specs.Prelude.{ℕ, ◌≡◌, List}
use Rattle.refusals.specs.Outcomes.{Outcome, after}
use Rattle.codes.specs.Codes.{code_of}
use Rattle.want_codes.specs.Plans.{counts_of}
use Rattle.wants.specs.declared.Tally.{Tally}

-- the answer in one number, and the counts told
pub record PlanTold (counts : List ℕ) (o : Outcome Tally) (r : ℕ) (counts' : List ℕ) : Type 0 where
  pub answer : r ≡ code_of o
  pub in_counts : counts' ≡ after o counts_of counts
