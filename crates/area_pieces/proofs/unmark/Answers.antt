-- `unmark` meets its contract: a word, or bit by bit.
use native.Mathlib.Omega.{arith}
use Rattle.area_pieces.proofs.SweepLaws.{taken_none, taken_more, word_taken, taken_to}
use Rattle.area_pieces.proofs.unmark.Goals as goal

pub returns-then-e-eq0 : goal.returns-then-e-eq0
returns-then-e-eq0 c = word_taken c.args.work.now c.requires.0 c.requires.2 (omega arith)

pub loop-c-init : goal.loop-c-init
loop-c-init c = (omega arith, taken_none c.args.s c.args.k c.args.work.now (omega arith))

pub loop-c-preserved : goal.loop-c-preserved
loop-c-preserved c = (omega arith, taken_more c.loop-c.invariant.1 (omega arith) c.unset.ensures)

pub returns : goal.returns
returns c = taken_to c.loop-c.invariant.1 (omega arith)
