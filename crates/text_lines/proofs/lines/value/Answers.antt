-- `value` meets its contract: the bytes so far are digits, and v is their value.
use native.Mathlib.Omega.{arith}
use Rattle.text_grammar.proofs.NumeralLaws.{reading_start, reading_below, reading_above, reading_over, reading_more, reading_end}
use Rattle.text_lines.proofs.lines.value.Goals as goal

pub loop-b-init : goal.loop-b-init
loop-b-init c = reading_start _

pub returns-then-b-lt48 : goal.returns-then-b-lt48
returns-then-b-lt48 c = reading_below c.loop-b.invariant (omega arith) c.if-b-lt48.true

pub returns-then-b-gt57 : goal.returns-then-b-gt57
returns-then-b-gt57 c = reading_above c.loop-b.invariant (omega arith) c.if-b-gt57.true

pub returns-then-v-ge-LIMIT : goal.returns-then-v-ge-LIMIT
returns-then-v-ge-LIMIT c = reading_over c.loop-b.invariant (omega arith) (omega arith) (omega arith) c.if-v-ge-LIMIT.true

pub loop-b-preserved : goal.loop-b-preserved
loop-b-preserved c = reading_more c.loop-b.invariant (omega arith) (omega arith) (omega arith) (omega arith)

pub returns : goal.returns
returns c = reading_end c.loop-b.invariant (omega arith)
