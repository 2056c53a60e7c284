-- What the functions here promise each other. No public promise names these.
use Rattle.std.specs.Prelude.{ℕ, Bool, ◌||◌, List, ltb}
use Rattle.graph.specs.Line.{Stretch, block_at, gap_at, past_points}

-- number 2 without the block numbers: "a reversed block, a start not the last end plus 1, last end > points"
abbrev pub bad_span : List Stretch → ℕ → ℕ → Bool
bad_span bs points i = ltb (block_at bs i).end (block_at bs i).start || (gap_at bs i || past_points bs points i)
