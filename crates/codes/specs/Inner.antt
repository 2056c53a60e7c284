-- What the functions here promise each other. No public promise names these.
use Rattle.std.specs.Prelude.{ℕ, ◌^◌, ◌<◌, Err}
use Rattle.refusals.specs.Verdicts.{Fine, Verdict}

-- the index of a refusal
abbrev pub index_of : Verdict → ℕ
index_of Fine = 0
index_of (Err e) = e.1

-- it fits the 32 bits that a code has for it
pub record Fits (v : Verdict) : Type 0 where
  pub index : index_of v < 2 ^ 32
