-- `copy_all` meets its contract: one group more each turn.
use Rattle.text_lines.proofs.CopyLaws.{Copying}
use Rattle.text_lines.proofs.text.copy_all.Given as goal

abbrev pub invariant-loop-k : goal.invariant-loop-k
invariant-loop-k l = Copying l.held l.counted l.initial.rows l.initial.counts l.rows l.counts l.k
