-- Document 01, number 10: the form of a list of ranges that is lent.
use Rattle.std.specs.Prelude.{ℕ, zero, suc, Bool, true, false, ◌&&◌, ◌||◌, List, length, leb, ltb}
use Rattle.refusals.specs.declared.Refusal.TheVariants.{Want}
use Rattle.refusals.specs.Verdicts.{scan, refuses, Verdict}
use Rattle.ranges.specs.declared.Range.{Range}
use Rattle.ranges.specs.Points.{range_at}

-- "a reversed range"
abbrev pub reversed_at : List Range → ℕ → Bool
reversed_at rs i = ltb (range_at rs i).end (range_at rs i).start

-- "unsorted or overlapping itself": a range that starts no later than the one before ends
abbrev pub close_at : List Range → ℕ → Bool
close_at rs zero = false
close_at rs (suc i) = leb (range_at rs (suc i)).start (range_at rs i).end

-- the verdict of one list: reversed ranges, and where it is to be in order and apart, close ones too
abbrev pub wrong_at : Bool → List Range → ℕ → Bool
wrong_at ordered rs i = reversed_at rs i || ordered && close_at rs i

unfoldable pub list_verdict : Bool → List Range → Verdict
list_verdict ordered rs = scan Want (wrong_at ordered rs) (length rs)

-- whether a list that is to be in order and apart is "reversed, unsorted or overlapping itself"
abbrev pub faulty : List Range → Bool
faulty rs = refuses (list_verdict true rs)
