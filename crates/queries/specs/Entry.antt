-- What the queries of a lent plan answer.
use Rattle.std.specs.Prelude.{ℕ, List, [], Ok, Err, Some, None, Option as Maybe, Result}
use Rattle.std.proofs.Math.Option.{Option, some, none}
use Rattle.refusals.specs.Verdicts.{number_of, Answer}
use Rattle.refusals.specs.Outcomes.{Outcome, given, refused, unless, answered, found}
use Rattle.fitting.specs.Queries.{slots_of, local, slot, saved}
use Rattle.query_checks.specs.Checks.{plan_verdict}
use Rattle.refusals.specs.declared.Refused.{Refused}

-- the entries' outcomes
abbrev pub local_of : List ℕ → List ℕ → ℕ → ℕ → Outcome (Option ℕ)
local_of cells items locals i = unless (plan_verdict cells items locals) (local (slots_of locals cells items []) i)

abbrev pub slot_of : List ℕ → List ℕ → ℕ → ℕ → Outcome (Option ℕ)
slot_of cells items locals i = unless (plan_verdict cells items locals) (slot (slots_of locals cells items []) i)

abbrev pub saved_by : List ℕ → List ℕ → ℕ → Outcome ℕ
saved_by cells items locals = unless (plan_verdict cells items locals) (saved (slots_of locals cells items []))
