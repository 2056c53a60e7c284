-- How a shared area is told in one number and a list of two.
use Rattle.std.specs.Prelude.{ℕ, ◌≡◌, List, ◌∷◌, drop}
use Rattle.std.proofs.Math.Option.{Option, some, none}
use Rattle.refusals.specs.Outcomes.{Outcome, given, refused, unless}
use Rattle.query_checks.specs.Checks.{told_verdict}
use Rattle.queries.specs.Shares.{shared_part}
use Rattle.codes.specs.Codes.{refusal_code, absent_code}
use Rattle.queries.specs.declared.Stretch.{Stretch}

-- `shared`, told in a list of so many numbers: one under two is refused, also where there is no shared area
abbrev pub told_of : List ℕ → List ℕ → List ℕ → ℕ → ℕ → ℕ → Outcome (Option Stretch)
told_of cells items areas locals i room = unless (told_verdict cells items areas locals room) (shared_part cells items locals i)

-- 0 where a part is told
abbrev pub part_code : Outcome (Option Stretch) → ℕ
part_code (given (some s)) = 0
part_code (given none) = absent_code
part_code (refused k i) = refusal_code k i

-- its first range and how many it has; else the list is unchanged
abbrev pub part_after : Outcome (Option Stretch) → List ℕ → List ℕ
part_after (given (some s)) old = s.first ∷ s.count ∷ drop 2 old
part_after (given none) old = old
part_after (refused k i) old = old

pub record PartTold (o : Outcome (Option Stretch)) (part : List ℕ) (r : ℕ) (part' : List ℕ) : Type 0 where
  pub answer : r ≡ part_code o
  pub in_part : part' ≡ part_after o part
