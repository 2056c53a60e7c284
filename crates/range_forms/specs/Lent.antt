-- Document 01, "The form for each place": the range functions over ranges that are lent as structs.
use Rattle.std.specs.Prelude.{◌≡◌, Bool, true, false, ◌||◌, List, [], ◌∷◌, length, eqb, ltb, Result}
use Rattle.refusals.specs.declared.Refusal.TheVariants.{Count}
use Rattle.refusals.specs.Verdicts.{number_of, in_order, check}
use Rattle.refusals.specs.Outcomes.{Outcome, given, refused, unless, answered}
use Rattle.ranges.specs.declared.Range.{Range}
use Rattle.ranges.specs.Points.{range_at}
use Rattle.ranges.specs.Merged.{joined, clashes}
use Rattle.range_checks.specs.Verdicts.{pair_verdict}
use Rattle.refusals.specs.declared.Refused.{Refused}

-- `joined` of a list that is the last range alone: number 10 for a reversed range, the new one counted on from the last
unfoldable pub joined_of : Range → Range → Outcome (List Range)
joined_of last new = unless (pair_verdict false (last ∷ []) (new ∷ [])) (joined (last ∷ []) new)

-- whether the new range was taken up: there is still one range
abbrev pub taken_up : Outcome (List Range) → Outcome Bool
taken_up (given rs) = given (eqb (length rs) 1)
taken_up (refused n i) = refused n i

-- "lengthens the last range it is lent": the last range afterwards; a refusal leaves it
abbrev pub last_after : Outcome (List Range) → Range → Range
last_after (given rs) last = range_at rs 0
last_after (refused n i) last = last

-- the answer, and what the lent range has become
pub record Joins (last new : Range) (r : Result Bool Refused) (last' : Range) : Type 0 where
  pub answer : answered r ≡ taken_up (joined_of last new)
  pub in_last : last' ≡ last_after (joined_of last new) last

-- number 1: a list lent that is over its limit
abbrev pub over_limit : List Range → Bool
over_limit rs = ltb 65536 (length rs)

-- "a thin entry that reads two lent lists of ranges": `clashes` of the two lists, refused as over columns
unfoldable pub clashes_of : List Range → List Range → Outcome Bool
clashes_of rs ss = unless (in_order (check Count (over_limit rs || over_limit ss) ∷ pair_verdict true rs ss ∷ [])) (clashes rs ss)
