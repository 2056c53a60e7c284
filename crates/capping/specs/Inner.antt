-- What the functions here promise each other. No public promise names these.
use Rattle.std.specs.Prelude.{ℕ, map}
use Rattle.fitting.specs.Queries.{Slots, cap}

-- a plan with each cell's alignment lowered
abbrev pub capped_plan : ℕ → Slots → Slots
capped_plan most S = record { cells = map (cap most) S.cells; locals = S.locals; slots = S.slots }
