-- `find` meets its contract: none of the first k bytes is it.
use Rattle.text_grammar.proofs.TableLaws.{Seeking}
use Rattle.text_grammar.proofs.find.Given as goal

abbrev pub invariant-loop-k : goal.invariant-loop-k
invariant-loop-k l = Seeking l.x l.s l.k
