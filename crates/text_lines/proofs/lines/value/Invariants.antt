-- `value` meets its contract: the bytes so far are digits, and v is their value.
use Rattle.text_grammar.proofs.NumeralLaws.{Reading}
use Rattle.text_lines.proofs.lines.value.Given as goal

abbrev pub invariant-loop-b : goal.invariant-loop-b
invariant-loop-b l = Reading l.s l.v l.b-index
