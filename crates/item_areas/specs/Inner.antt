-- What the functions here promise each other. No public promise names these.
use Rattle.std.specs.Prelude.{ℕ}
use Rattle.words.specs.Rows.{tabulate}
use Rattle.areas.specs.Job.{Job, item_count, item_area, ranges_of}

-- how many ranges all areas have
abbrev pub total : Job → ℕ
total J = ranges_of (tabulate (item_count J) (item_area J))
