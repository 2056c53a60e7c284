-- What `cap` answers and refuses: document 01, number 1.
use Rattle.std.specs.Prelude.{ℕ, ◌≡◌, not, ◌||◌, List, [], ◌∷◌, ltb}
use Rattle.refusals.specs.declared.Refusal.TheVariants.{Count}
use Rattle.refusals.specs.Verdicts.{check, Verdict}
use Rattle.refusals.specs.Outcomes.{unless, numbered, after}
use Rattle.words.specs.Rows.{whole_rows, tabulate, flat}
use Rattle.words.specs.Widths.{cell_width, cell_count, cell_size, cell_align}
use Rattle.fitting.specs.Queries.{Room, cap}
use Rattle.capping.specs.declared.Cell.{Cell}

-- a cell's row: size, align
abbrev pub room_row : Room → List ℕ
room_row c = c.size ∷ c.align ∷ []

-- a cell by value, as the paper's
abbrev pub room_by : Cell → Room
room_by c = record { size = c.size; align = c.align }

-- `cap`: number 1, a list that is no whole rows or has fewer than the cells counted, or more cells than a plan can have
abbrev pub cap_verdict : List ℕ → ℕ → Verdict
cap_verdict cells count = check Count (not (whole_rows cell_width cells) || (ltb (cell_count cells) count || ltb 4096 count))

abbrev pub cap_checks : List ℕ → ℕ → List Verdict
cap_checks cells count = cap_verdict cells count ∷ []

-- the first `count` cells, each with its alignment lowered
abbrev pub cap_rows : List ℕ → ℕ → ℕ → List ℕ
cap_rows cells count most = flat (tabulate count (λ i. room_row (cap most (record { size = cell_size cells i; align = cell_align cells i }))))

-- "sizes and entries past the count unchanged": a refusal changes nothing
pub record CappedBy (cells : List ℕ) (count most : ℕ) (r : Verdict) (cells' : List ℕ) : Type 0 where
  pub answer : numbered r ≡ numbered (cap_verdict cells count)
  pub in_cells : cells' ≡ after (unless (cap_verdict cells count) (cap_rows cells count most)) (λ l. l) cells
