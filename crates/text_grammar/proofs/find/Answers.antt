-- `find` meets its contract: none of the first k bytes is it.
use native.Mathlib.Omega.{arith}
use Rattle.text_grammar.proofs.TableLaws.{seek_start, seek_here, seek_past, seek_end}
use Rattle.text_grammar.proofs.find.Goals as goal

pub loop-k-init : goal.loop-k-init
loop-k-init c = seek_start _ _

pub returns-then-b-x : goal.returns-then-b-x
returns-then-b-x c = seek_here c.loop-k.invariant (omega arith) c.if-b-x.true

pub loop-k-preserved : goal.loop-k-preserved
loop-k-preserved c = seek_past c.loop-k.invariant (omega arith) c.if-b-x.false

pub returns : goal.returns
returns c = seek_end c.loop-k.invariant (omega arith)
