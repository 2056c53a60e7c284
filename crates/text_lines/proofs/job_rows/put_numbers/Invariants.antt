-- `put_numbers` meets its contract: a number more is written each turn.
use lib.ListN.{get_or}
use Rattle.text_grammar.specs.Groups.{group_at}
use Rattle.text_grammar.specs.Text.{numbers}
use Rattle.words.proofs.RegionLaws.{Done}
use Rattle.text_lines.proofs.job_rows.put_numbers.Given as goal

abbrev pub invariant-loop-j : goal.invariant-loop-j
invariant-loop-j l = Done l.initial.rows l.rows l.at l.n (λ i. get_or (numbers (group_at l.k).dashes l.fields) i 0) l.j
