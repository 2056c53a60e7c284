-- What an entry answers, by document 01's numbers, and what it leaves in the lists that it was lent.
use Rattle.std.specs.Prelude.{Result, Ok, Err, Some, None, ℕ, List, ◌++◌, length, drop}
use Rattle.std.proofs.Math.Option.{Option, some, none}
use Rattle.refusals.specs.declared.Refused.{Refused}
use Rattle.refusals.specs.Verdicts.{number_of, Verdict, Fine, Found}

-- an answer, or a refusal's number and index
pub data Outcome (A : Type 0) : Type 0 where
  given : A → Outcome A
  refused : ℕ → ℕ → Outcome A

-- the answer, unless a check refuses
abbrev pub unless : {A : Type 0} → Verdict → A → Outcome A
unless Fine a = given a
unless (Err e) a = refused (number_of e.0) e.1

-- an answer by document 01's number and index, or the refusal's
abbrev pub answered : {A : Type 0} → Result A Refused → Outcome A
answered (Ok a) = given a
answered (Err e) = refused (number_of e.0) e.1

-- a verdict by document 01's number and index: done, or the refusal
abbrev pub numbered : Verdict → Outcome (Unit {0})
numbered v = answered v

-- the same of an answer that may be absent
abbrev pub found : {A : Type 0} → Found A → Outcome (Option A)
found (Ok (Some a)) = given (some a)
found (Ok None) = given none
found (Err e) = refused (number_of e.0) e.1

-- an answer list afterwards: "a refusal changes no answer list", "list entries past the answer are unchanged"
abbrev pub after : {A B : Type 0} → Outcome A → (A → List B) → List B → List B
after (given a) new old = new a ++ drop (length (new a)) old
after (refused n i) new old = old
