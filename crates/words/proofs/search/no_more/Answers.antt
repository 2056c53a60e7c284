-- `words::search::no_more` meets its contract: the sum reaches 2 to the 32 exactly where x is at most y.
use Rattle.words.proofs.SearchLaws.{no_more}
use native.Mathlib.Omega.{arith}
use Rattle.words.proofs.search.no_more.Goals as goal

pub returns : goal.returns
returns c = no_more _ _ (omega arith) (omega arith)
