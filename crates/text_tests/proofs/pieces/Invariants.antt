-- `pieces` is safe and ends: as much more can be read as is left of the text.
use Rattle.std.proofs.Common.{◌≡◌, length}
use Rattle.text_lines.specs.Inner.{Ready}
use Rattle.text_tests.proofs.pieces.Given as goal

abbrev pub invariant-loop-rest : goal.invariant-loop-rest
invariant-loop-rest l = (length l.fields ≡ 7) × Ready l.s.reader l.s.len l.line l.rows l.counts (length l.rest)

abbrev pub decreases-loop-rest : goal.decreases-loop-rest
decreases-loop-rest l = length l.rest
