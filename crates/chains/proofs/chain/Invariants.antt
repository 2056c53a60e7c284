-- `chains::chain` meets its contract: the first i rows are linked.
use Rattle.chains.proofs.ChainLaws.{Linking}
use Rattle.words.specs.Rows.{field}
use Rattle.chains.proofs.chain.Given as goal

abbrev pub invariant-loop-i : goal.invariant-loop-i
invariant-loop-i l = Linking (λ j. field l.width l.rows j l.column) l.n l.keys l.heads l.nexts l.initial.work l.work l.i
