-- Document 02, (c), "One walk over a given area": of a want's part of the area list, whether number 10 applies, and how many of its ranges are looked at.
use Rattle.std.specs.Prelude.{ℕ, ◌+◌, Bool, true, false, cond, ◌||◌, List, length, take, drop, ltb, eqb, Err}
use Rattle.ranges.specs.declared.Range.{Range}
use Rattle.ranges.specs.Lent.{list_verdict, faulty}
use Rattle.refusals.specs.Verdicts.{Fine, Verdict}

-- number 10: "an area outside its list, reversed, unsorted or overlapping itself"; an absent want's part is not read
abbrev pub bad_part : List Range → ℕ → ℕ → ℕ → Bool
bad_part areas present first count = cond (eqb present 0) false (ltb (length areas) (first + count) || faulty (take count (drop first areas)))

-- "all, or up to and with the first" that a verdict names
abbrev pub up_to : ℕ → Verdict → ℕ
up_to all Fine = all
up_to all (Err e) = e.1 + 1

-- "the ranges it looks at": "all, or up to and with the first that is reversed or starts no later than the one before ends"
abbrev pub looked_in : List Range → ℕ
looked_in rs = up_to (length rs) (list_verdict true rs)

-- of a want's part: none where it is absent, "none of an area outside its list"
abbrev pub looked_at : List Range → ℕ → ℕ → ℕ → ℕ
looked_at areas present first count = cond (eqb present 0 || ltb (length areas) (first + count)) 0 (looked_in (take count (drop first areas)))
