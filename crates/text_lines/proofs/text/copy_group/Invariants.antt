-- `copy_group` meets its contract: each number of the group's room is a record's, or zero.
use lib.ListN.{get_or}
use Rattle.words.specs.Inner.{part}
use Rattle.words.proofs.RegionLaws.{Done}
use Rattle.text_lines.proofs.text.copy_group.Given as goal

abbrev pub invariant-loop-j : goal.invariant-loop-j
invariant-loop-j l = Done l.initial.rows l.rows l.base l.room (λ i. get_or (part l.base l.len l.held) i 0) l.j
