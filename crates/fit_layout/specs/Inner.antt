-- What the functions here promise each other. No public promise names these.
use Rattle.std.specs.Prelude.{ℕ, ◌+◌, List, get_or}
use Rattle.words.specs.Rows.{tabulate}
use Rattle.fitting.specs.Queries.{Room}
use Rattle.fit_tables.specs.Inner.{size_of, align_of}

-- the sizes and alignments of n cells, by their words from `from` on
abbrev pub rooms_at : List ℕ → ℕ → ℕ → List Room
rooms_at w from n = tabulate n (λ i. record { size = size_of (get_or w (from + i) 0); align = align_of (get_or w (from + i) 0) })
