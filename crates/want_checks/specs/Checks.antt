-- Document 01, "Fitting alone, over given wants": what the entry refuses before it fits (numbers 1, 7 and 10), and W.
use Rattle.std.specs.Prelude.{ℕ, ◌+◌, ◌-◌, ◌*◌, ◌/◌, ◌%◌, Bool, not, ◌||◌, List, [], ◌∷◌, ltb, eqb}
use Rattle.refusals.specs.declared.Refusal.TheVariants.{Count, Space, Want as WantRefused}
use Rattle.refusals.specs.Verdicts.{in_order, scan, check, Verdict}
use Rattle.words.specs.Rows.{whole_rows}
use Rattle.words.specs.Widths.{cell_width, item_width, range_width, range_count, want_width, want_count, want_present, want_first, want_ranges}
use Rattle.ranges.specs.declared.Range.{Range}
use Rattle.ranges.specs.Forms.{areas_of}
use Rattle.range_walk.specs.Walk.{bad_part}

-- number 10 of one want, by its part of the area list
abbrev pub bad_want : List Range → List ℕ → ℕ → Bool
bad_want areas s i = bad_part areas (want_present s i) (want_first s i) (want_ranges s i)

-- the first want whose part is bad
abbrev pub wants_verdict : List ℕ → List ℕ → Verdict
wants_verdict areas s = scan WantRefused (bad_want (areas_of areas) s) (want_count s)

-- number 1: locals over the wants, or a count over its limit
abbrev pub over_limit : ℕ → ℕ → ℕ → ℕ → Bool
over_limit wants ranges locals budget = ltb wants locals || (ltb 2048 locals || (ltb 2048 (wants - locals) || (ltb 65536 ranges || ltb 1048576 budget)))

-- number 1: a list that is no whole rows, or a count over its limit
abbrev pub bad_count : List ℕ → List ℕ → ℕ → ℕ → ℕ → ℕ → Bool
bad_count wants areas locals budget cells items =
    not (whole_rows want_width wants) || (not (whole_rows range_width areas) || (not (eqb (cells % cell_width) 0) || (not (eqb (items % item_width) 0)
    || over_limit (want_count wants) (range_count areas) locals budget)))

-- W = 8 × (wants + length of the area list)
abbrev pub space_of : List ℕ → List ℕ → ℕ
space_of wants areas = 8 * (want_count wants + range_count areas)

-- number 7: an answer list under the wants, a work space under W
abbrev pub bad_space : List ℕ → List ℕ → ℕ → ℕ → ℕ → ℕ → Bool
bad_space wants areas cells items offsets work =
    ltb work (space_of wants areas) || (ltb (cells / cell_width) (want_count wants) || (ltb (items / item_width) (want_count wants) || ltb offsets (want_count wants)))

-- "fitting alone checks 1, 7, 10", before it fits
abbrev pub fit_checks : List ℕ → List ℕ → ℕ → ℕ → ℕ → ℕ → ℕ → ℕ → List Verdict
fit_checks wants areas locals budget cells items offsets work =
    check Count (bad_count wants areas locals budget cells items) ∷ check Space (bad_space wants areas cells items offsets work) ∷ wants_verdict areas wants ∷ []

unfoldable pub verdict : List ℕ → List ℕ → ℕ → ℕ → ℕ → ℕ → ℕ → ℕ → Verdict
verdict wants areas locals budget cells items offsets work = in_order (fit_checks wants areas locals budget cells items offsets work)
