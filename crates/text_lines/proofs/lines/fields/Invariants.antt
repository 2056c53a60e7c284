-- `fields` meets its contract: a field more is read each turn.
use Rattle.text_lines.proofs.FieldLaws.{Taking}
use Rattle.text_grammar.specs.Groups.{group_at}
use Rattle.text_lines.proofs.lines.fields.Given as goal

abbrev pub invariant-loop-j : goal.invariant-loop-j
invariant-loop-j l = Taking l.s (group_at l.k).dashes l.initial.out l.out l.at l.j
