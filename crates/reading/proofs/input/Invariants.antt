-- `input` meets its contract: as much more can be read as turns are left, and what was read is some text.
use Prim.Native.Nat.{◌-◌, ◌*◌}
use mathlib.Core.Path.{◌≡◌}
use lib.ListN.{length}
use Rattle.text_lines.specs.Inner.{Ready}
use Rattle.reading.proofs.input.Given as goal

abbrev pub invariant-loop-turn : goal.invariant-loop-turn
invariant-loop-turn l = (length l.fields ≡ 7) × (length l.piece ≡ 4096) × Ready l.s.reader l.s.len l.line l.rows l.counts (4096 * (2251799813685248 - l.turn))
