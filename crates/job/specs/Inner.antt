-- What the functions here promise each other. No public promise names these.
use Rattle.std.specs.Prelude.{ℕ, ◌+◌}
use Rattle.job_space.specs.declared.Sizes.{Sizes}
use Rattle.job_space.specs.Space.{space_of}
use Rattle.job.specs.Entry.{short_verdict}
use Rattle.refusals.specs.Verdicts.{Verdict}

-- the same by numbers of records
abbrev pub space_verdict : Sizes → ℕ → ℕ → ℕ → ℕ → Verdict
space_verdict z cells items offsets work = short_verdict (space_of z) (z.locals + z.slots) cells items offsets work
